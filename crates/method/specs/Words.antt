-- The arguments of fields as words of 64 bits, in wire order: how the code carries them between a command or a header and its octets.
use Rattle.std.specs.Prelude.{List, [], ◌∷◌, ◌++◌, ℕ, ◌+◌, drop}
use Rattle.method.specs.Fields.{Kind, kind, Field, fixed, arg, Pooled, Args}
use Rattle.method.specs.Commands.{fields_of, Command, call}
use Rattle.method.specs.Properties.{properties, select, flags_of, Header, header}

-- how many words
abbrev pub width : Field → ℕ
width (fixed xs) = 0
width (arg k) = (kind k).width

abbrev pub widths : List Field → ℕ
widths [] = 0
widths (f ∷ fs) = width f + widths fs

abbrev pub arg_words : (k : Kind) → Pooled k → List ℕ
arg_words k v = (kind k).words v

unfoldable pub args_words : (fs : List Field) → Args Pooled fs → List ℕ
args_words [] vs = []
args_words (fixed xs ∷ fs) vs = args_words fs vs
args_words (arg k ∷ fs) vs = arg_words k vs.0 ++ args_words fs vs.1

-- and back

abbrev pub arg_from : (k : Kind) → List ℕ → Pooled k
arg_from k ws = (kind k).from ws

unfoldable pub args_from : (fs : List Field) → List ℕ → Args Pooled fs
args_from [] ws = tt
args_from (fixed xs ∷ fs) ws = args_from fs ws
args_from (arg k ∷ fs) ws = (arg_from k ws, args_from fs (drop (width (arg k)) ws))

abbrev pub command_from : ℕ → ℕ → List ℕ → Command Pooled
command_from c m ws = call c m (args_from (fields_of c m) ws)

-- n has a bit for each of the thirteen properties, the first one highest
abbrev pub header_from : ℕ → ℕ → ℕ → List ℕ → Header Pooled
header_from c size n ws = header c size (flags_of 13 n) (args_from (select (flags_of 13 n) properties) ws)
