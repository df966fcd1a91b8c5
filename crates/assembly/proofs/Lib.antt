mod DraftLaws
mod AssemblyLaws
