-- the latest declaration of a name as declarations come and go
mod HidingLaws
-- where a list has an element that passes a test
mod PositionLaws
-- names in the set that holds them
mod TableLaws
-- what names are bound to, by their numbers
mod BindingLaws
