pub mod OnPlan
pub mod Proper
pub mod Row
pub mod Alike
pub mod Range
pub mod Living
