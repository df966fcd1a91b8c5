-- a scan of a function beside its typing
pub mod Following
-- the objects whose addresses typed parts take
pub mod Taking
