-- lists of words, chosen and written
pub mod ListLaws
-- selections as nodes of a graph
pub mod SelectionLaws
-- reads of what targets name
pub mod ReadLaws
-- words placed in lists
pub mod PlaceLaws
-- targets while a graph grows, and the nodes that they name
pub mod TargetLaws
-- boards while a graph grows, and boards of which one object is changed
pub mod BoardLaws
-- equality of pointers by their objects and cells
pub mod SameLaws
-- tables of places
pub mod TableLaws
-- one of two lists of targets
pub mod ChoiceLaws
-- boards of which one pointer is changed
pub mod PointerLaws
-- parts of elements
pub mod PartLaws
