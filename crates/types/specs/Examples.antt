-- The definitions at some octets: today's date to the second, and strings.
use Rattle.std.specs.Prelude.{◌≡◌, refl, [], ◌∷◌}
use Rattle.utf8.specs.Utf8.{character, fault_from, fault, utf8}
use Rattle.types.specs.Answer.{given, refused, truncated, not_utf8}
use Rattle.types.specs.Octets.{number_at, uint_at, octets}
use Rattle.types.specs.Strings.{span_at, short_str_at}

-- 2026-11-15 00:00:00 and the second after it, as POSIX seconds
midnight : uint_at 8 (0 ∷ 0 ∷ 0 ∷ 0 ∷ 0x6A ∷ 0xF8 ∷ 0xF6 ∷ 0x00 ∷ []) 0 ≡ given 1794700800 8
unfolding uint_at number_at
midnight = refl

next-second : uint_at 8 (0 ∷ 0 ∷ 0 ∷ 0 ∷ 0x6A ∷ 0xF8 ∷ 0xF6 ∷ 0x01 ∷ []) 0 ≡ given 1794700801 8
unfolding uint_at number_at
next-second = refl

written : octets 8 1794700801 ≡ 0 ∷ 0 ∷ 0 ∷ 0 ∷ 0x6A ∷ 0xF8 ∷ 0xF6 ∷ 0x01 ∷ []
written = refl

-- "rack" behind its length; one octet short of it; and a length octet before C0 80, which is no character
rack : short_str_at (4 ∷ 0x72 ∷ 0x61 ∷ 0x63 ∷ 0x6B ∷ []) 0 ≡ given (record { start = 1; len = 4 }) 5
unfolding short_str_at span_at uint_at number_at utf8 fault fault_from character
rack = refl

cut : short_str_at (4 ∷ 0x72 ∷ 0x61 ∷ 0x63 ∷ []) 0 ≡ refused truncated
unfolding short_str_at span_at uint_at number_at
cut = refl

overlong : short_str_at (2 ∷ 0xC0 ∷ 0x80 ∷ []) 0 ≡ refused not_utf8
unfolding short_str_at span_at uint_at number_at utf8 fault fault_from character
overlong = refl
