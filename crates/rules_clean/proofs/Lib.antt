-- What follows from the definitions: which frames are taken and what the direct decoder makes of them, and what each fault means.
pub mod Verdicts
pub mod Upward
pub mod Calls
pub mod Lists
pub mod Examples
