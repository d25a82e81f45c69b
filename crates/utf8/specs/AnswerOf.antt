-- What the answers of the code say, in the words of the grammar.
use Rattle.std.specs.Prelude.{ℕ, zero, suc, ◌≤◌, ◌<◌, get_or, List, [], ◌∷◌, Option, Some, None, Result, Ok, Err}
use Rattle.utf8.specs.Utf8.{Range, to, Fault, none, at}
use Rattle.utf8.specs.declared.Utf8Error.{Utf8Error}

-- n octets, the first of them within limits
abbrev pub ranges : ℕ → ℕ → ℕ → List Range
ranges zero l h = []
ranges (suc n) l h = to l h ∷ ranges n 0x80 0xBF

abbrev pub answer_of_lead : Option (ℕ × ℕ × ℕ) → List (List Range)
answer_of_lead (Some (n, l, h)) = ranges n l h ∷ []
answer_of_lead None = []

abbrev pub answer_of_scan : Result Unit Utf8Error → Fault
answer_of_scan (Ok tt) = none
answer_of_scan (Err e) = at e.valid_up_to

-- the octets from one place to another are below 128
unfoldable pub Ascii : List ℕ → ℕ → ℕ → Type 0
Ascii s start end = (i : ℕ) → start ≤ i → i < end → get_or s i 0 < 0x80
