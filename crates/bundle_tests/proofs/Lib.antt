mod BundleLaws
mod ConjunctionLaws
mod PassedLaws
mod SharingsLaws
