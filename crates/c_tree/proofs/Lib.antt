-- pieces that fit tokens
pub mod PiecesLaws
-- trees by their outermost layer
pub mod Cases
pub mod StatementCases
-- what trees want, and whether they are of the grammar, by their parts
pub mod FoldsLaws
pub mod TypesLaws
pub mod StatementFoldsLaws
-- what clients ask of trees
pub mod BracketsLaws
