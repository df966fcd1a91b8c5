-- what a scan of a function knows
pub mod Scans
-- the addresses that a function takes, production by production
pub mod Addresses
