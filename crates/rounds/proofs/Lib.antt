pub mod Ending
pub mod Stepping
pub mod Handing
pub mod Keeping
pub mod Passing
pub mod Longer
pub mod Placing
pub mod Rounding
