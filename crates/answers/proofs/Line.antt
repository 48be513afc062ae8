-- A text to which more was added, part by part.
use Rattle.std.proofs.Common.{◌≡◌, ℕ, ◌∙◌, ap, List, ◌++◌, OnOk, Result, Ok, Err}
use Rattle.std.proofs.lemmas.List.{append_assoc}
use Rattle.std.proofs.lemmas.Result.{on_ok_weaker}
use Rattle.std.specs.Bool.{if◌then◌else◌}
use Rattle.std.specs.Result.{is_ok}

-- two parts, the second where it could be added
pub part_then_end : {T E : Type 0} (r : Result T E) (old begun new part end : List ℕ) →
    begun ≡ old ++ part → new ≡ (if is_ok r then begun ++ end else begun) → OnOk r (new ≡ old ++ (part ++ end))
part_then_end (Ok x) old begun new part end b e = e ∙ ap (λ t. t ++ end) b ∙ append_assoc old part end
part_then_end (Err x) old begun new part end b e = tt

-- a name, its number, and the end of the line
pub value_then_end : {T E : Type 0} (r : Result T E) (old named new name number end : List ℕ) →
    named ≡ old ++ (name ++ number) → new ≡ (if is_ok r then named ++ end else named) →
    OnOk r (new ≡ old ++ (name ++ (number ++ end)))
value_then_end r old named new name number end n e =
    on_ok_weaker r (λ all. all ∙ ap (λ t. old ++ t) (append_assoc name number end))
    (part_then_end r old named new (name ++ number) end n e)
