-- Interface: `frame`, `subframe`, `last_subframe`, `subcarriers`, `symbols`, `slots`, `elements`, `numbers`,
-- `element_of`, `slot_of`, `symbol_of`, `subcarrier_of`, `uplink_subcarriers`, `uplink_element_of`,
-- `uplink_elements`, `uplink_symbol_of`, `uplink_subcarrier_of`, `entry`, `lengths`, `downlink_copies`,
-- `downlink_delay`, `uplink_copies`, `uplink_delays`, `size_of`, `single_tone_rows`, `single_tone_orders`,
-- `up_to_four`, `is_repetition`.
pub mod Grid
pub mod Tables
pub mod Scaffold
