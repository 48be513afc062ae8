-- For the code alone. The bytes of a buffer.
use Rattle.std.specs.Prelude.{List, ℕ, take}
use Rattle.text.specs.declared.buffer.Buffer.{Buffer}

-- the bytes kept
abbrev pub buffer_bytes : {n : ℕ} → Buffer n → List ℕ
buffer_bytes b = take b.count b.room
