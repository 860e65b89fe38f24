-- Blanking (docs/RULES.md, "Blanking") as definitions: blanked samples and runs, what a call answers and leaves, and what the
-- functions ask.
pub mod Blanking
pub mod Calls
pub mod MapLent
pub mod Examples
