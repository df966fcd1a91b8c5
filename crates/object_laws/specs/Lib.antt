-- initializers and declarations as a text spells them, and what they fill
pub mod Filling
-- declarations as a text spells them, and what they declare
pub mod Declaring
