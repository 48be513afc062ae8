-- Interface: `bitmap_of`, `anchor_cell`, `in_band_cell`, `SamePortsCases`, `in_band`, `numbers_refusal`, `judge_of`,
-- `in_force_of`, `cause_of`, `layout_of`, `element_count_of`, `period`, `is_anchor`, `cause_number`, `none`, `free`,
-- `why`, `usable`.
pub mod Bitmap
pub mod Usable
pub mod Judge
pub mod Layout
pub mod Quick
pub mod Cases
