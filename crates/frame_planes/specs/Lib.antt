-- Colour planes (docs/RULES.md, "Colour planes") as definitions, and what the functions ask of what they are lent.
pub mod Planes
pub mod PlanesLent
pub mod Examples
