pub mod Mappings
pub mod HeldMappings
pub mod MappingsView
pub mod steps
