mod Later
mod Siblings
mod Dues
mod Prefixes
