-- Interface: `nrs`, `crs`, `reference`, `kind_of`, `control_region`, `eligible`, `used`, `count_of`, `element_at`,
-- `number_of`, `ncce_width`.
pub mod Elements
pub mod Quick
pub mod Scaffold
