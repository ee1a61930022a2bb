pub mod Buffers
pub mod Bodies
pub mod Methods
pub mod Searches
pub mod Chains
