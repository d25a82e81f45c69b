-- A moment as text.
use Rattle.std.specs.Prelude.{[], ◌∷◌, ◌++◌, List, ℕ, ◌-◌, ◌^◌, false}
use Rattle.std.specs.Fmt.{decimal, padded_integral, format_spec}
use Rattle.utc.specs.declared.DateTime.{DateTime}

-- a number of two digits or more, the first of which may be 0
abbrev pub two_digits : ℕ → List ℕ
two_digits n = padded_integral (format_spec 32 0 4 2 (2 ^ 64 - 1)) false [] (decimal n)

-- As in 2026-11-26 19:00:00 UTC: 45 is '-', 58 is ':', and 32 a space.
abbrev pub text_of : DateTime → List ℕ
text_of t = decimal t.year ++ 45 ∷ two_digits t.month ++ 45 ∷ two_digits t.day
    ++ 32 ∷ two_digits t.hour ++ 58 ∷ two_digits t.minute ++ 58 ∷ two_digits t.second ++ 32 ∷ 85 ∷ 84 ∷ 67 ∷ []
