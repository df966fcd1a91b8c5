-- the depths of types, by which a walk over them ends
mod Depths
-- the shapes of structs
mod ShapeLaws
-- the cells of structs
mod ScalarLaws
