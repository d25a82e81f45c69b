-- RFC 3629's own examples: the texts of section 7 are well-formed, and what sections 3 and 10 forbid is a fault at its place.
use Rattle.std.specs.Prelude.{◌≡◌, refl, true, [], ◌∷◌}
use Rattle.utf8.specs.Utf8.{at, character, fault_from, fault, utf8}

-- section 7: A, not identical to, Alpha, full stop
letters : utf8 (0x41 ∷ 0xE2 ∷ 0x89 ∷ 0xA2 ∷ 0xCE ∷ 0x91 ∷ 0x2E ∷ []) ≡ true
unfolding utf8 fault fault_from character
letters = refl

-- "hangugeo", Korean for the Korean language
korean : utf8 (0xED ∷ 0x95 ∷ 0x9C ∷ 0xEA ∷ 0xB5 ∷ 0xAD ∷ 0xEC ∷ 0x96 ∷ 0xB4 ∷ []) ≡ true
unfolding utf8 fault fault_from character
korean = refl

-- "nihongo", Japanese for the Japanese language
japanese : utf8 (0xE6 ∷ 0x97 ∷ 0xA5 ∷ 0xE6 ∷ 0x9C ∷ 0xAC ∷ 0xE8 ∷ 0xAA ∷ 0x9E ∷ []) ≡ true
unfolding utf8 fault fault_from character
japanese = refl

-- U+233B4 behind a byte order mark
marked : utf8 (0xEF ∷ 0xBB ∷ 0xBF ∷ 0xF0 ∷ 0xA3 ∷ 0x8E ∷ 0xB4 ∷ []) ≡ true
unfolding utf8 fault fault_from character
marked = refl

-- section 3: no surrogate, here U+D800
surrogate : fault (0x41 ∷ 0xED ∷ 0xA0 ∷ 0x80 ∷ []) ≡ at 1
unfolding fault fault_from character
surrogate = refl

-- section 3: nothing above U+10FFFF
above : fault (0xF4 ∷ 0x90 ∷ 0x80 ∷ 0x80 ∷ []) ≡ at 0
unfolding fault fault_from character
above = refl

-- section 10: NUL in two octets, and "/../" with an overlong dot
overlong-nul : fault (0xC0 ∷ 0x80 ∷ []) ≡ at 0
unfolding fault fault_from character
overlong-nul = refl

overlong-dot : fault (0x2F ∷ 0xC0 ∷ 0xAE ∷ 0x2E ∷ 0x2F ∷ []) ≡ at 1
unfolding fault fault_from character
overlong-dot = refl

-- a character that the end cuts off
cut : fault (0xF0 ∷ 0xA3 ∷ 0x8E ∷ 0xB4 ∷ 0xE2 ∷ 0x89 ∷ []) ≡ at 4
unfolding fault fault_from character
cut = refl
