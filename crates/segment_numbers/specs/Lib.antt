pub mod BothWays
