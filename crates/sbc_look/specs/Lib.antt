pub mod Look
pub mod Next
