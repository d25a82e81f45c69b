-- A command and a content header as words, in wire order, and back. How an argument is words is said by specs/Words.antt of method.
use Rattle.std.specs.Prelude.{cond, List, ◌++◌, ℕ, length, drop}
use Rattle.std.specs.Prelude.{Option, None, Some}
use Rattle.method.specs.Fields.{Kind, kind, Field, Pooled, Args, map_args}
use Rattle.method.specs.Commands.{known, fields_of, Command, call}
use Rattle.method.specs.Properties.{properties, select, flags_number, flags_of, Header, header}
use Rattle.method.specs.Words.{args_words, args_from}
use Rattle.method.specs.Layout.{zeros}
use Rattle.method_words.specs.declared.Call.{Call}
use Rattle.method_words.specs.declared.HeaderWords.{HeaderWords}

-- k words, 0 behind those that there are
abbrev pub padded : ℕ → List ℕ → List ℕ
padded k ws = ws ++ drop (length ws) (zeros k)

abbrev pub call_of : Command Pooled → Call
call_of (call c m vs) = record { class = c; method = m; words = padded 8 (args_words (fields_of c m) vs) }

abbrev pub header_words : Header Pooled → HeaderWords
header_words (header c n present vs) =
    record { class = c; body_size = n; present = flags_number present; words = padded 22 (args_words (select present properties) vs) }

-- Back: numbers are cut to their width, as the code turns words into arguments; what was read is not changed by it

abbrev pub cut_arg : (k : Kind) → Pooled k → Pooled k
cut_arg k v = (kind k).cut v

unfoldable pub cut_args : (fs : List Field) → Args Pooled fs → Args Pooled fs
cut_args fs vs = map_args cut_arg fs vs

-- the command of a pair that is known
unfoldable pub command_with : ℕ → ℕ → List ℕ → Option (Command Pooled)
command_with c m ws = cond (known c m) (Some (call c m (cut_args (fields_of c m) (args_from (fields_of c m) ws)))) None

-- flags has a bit for each of the thirteen properties, the first one highest
abbrev pub header_with : ℕ → ℕ → ℕ → List ℕ → Header Pooled
header_with c n flags ws = header c n (flags_of 13 flags) (cut_args (select (flags_of 13 flags) properties) (args_from (select (flags_of 13 flags) properties) ws))
