pub mod Lists
pub mod Rules
pub mod Leaves
pub mod Changing
pub mod Told
pub mod RulesTold
pub mod PlansMade
