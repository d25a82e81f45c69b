-- What a reader returns is what a writer takes: the same command or header, its strings as spans of a lent pool and its table as the lent tape.
-- The writers refuse arguments in wire order, each string for its span (one outside the pool has fewer octets than it needs: Truncated), its length,
-- its UTF-8; then 9, then 11 (document 01, "Results and refusals").
use Rattle.std.specs.Prelude.{Option, None}
use Rattle.std.specs.Prelude.{List, ℕ}
use Rattle.types.specs.Answer.{Refusal}
use Rattle.types.specs.Judgement.{or_else}
use Rattle.types.specs.Memory.{Outcome}
use Rattle.writers.specs.Writers.{write_at}
use Rattle.tables.specs.Letters.{Letters}
use Rattle.tables.specs.Writing.{tape_meaning}
use Rattle.method.specs.Fields.{Kind, kind, Field, Meaning, Pooled, Args, map_args, fold_args}
use Rattle.method.specs.Commands.{fields_of, Command, call}
use Rattle.method.specs.Properties.{properties, select, Header, header}
use Rattle.method.specs.Writing.{command_octets, header_octets, judge_lengths}

module _ (letters : Letters) (pool tape : List ℕ) where
  -- What it means: a writer takes the whole tape given

  abbrev pub pooled_meaning : (k : Kind) → Pooled k → Meaning k
  pooled_meaning k v = (kind k).meaning pool (tape_meaning letters pool tape) v

  unfoldable pub pooled_meanings : (fs : List Field) → Args Pooled fs → Args Meaning fs
  pooled_meanings fs vs = map_args pooled_meaning fs vs

  abbrev pub pooled_command_meaning : Command Pooled → Command Meaning
  pooled_command_meaning (call c m vs) = call c m (pooled_meanings (fields_of c m) vs)

  abbrev pub pooled_header_meaning : Header Pooled → Header Meaning
  pooled_header_meaning (header c n present vs) = header c n present (pooled_meanings (select present properties) vs)

  -- What is refused

  abbrev pub judge_arg : (k : Kind) → Pooled k → Option Refusal
  judge_arg k v = (kind k).judge letters pool tape v

  -- in wire order
  unfoldable pub judge_args : (fs : List Field) → Args Pooled fs → Option Refusal
  judge_args fs vs = fold_args or_else None judge_arg fs vs

  abbrev pub refusal_of : (fs : List Field) → Args Pooled fs → Option Refusal
  refusal_of fs vs = or_else (judge_args fs vs) (judge_lengths letters fs (pooled_meanings fs vs))

  -- A command and a header: what their writers refuse, given space enough, and what they write

  abbrev pub command_refusal : Command Pooled → Option Refusal
  command_refusal (call c m vs) = refusal_of (fields_of c m) vs

  abbrev pub header_refusal : Header Pooled → Option Refusal
  header_refusal (header c n present vs) = refusal_of (select present properties) vs

  unfoldable pub write_command : Command Pooled → ℕ → List ℕ → Outcome Unit
  write_command x at out = write_at (command_refusal x) (command_octets letters (pooled_command_meaning x)) at out

  unfoldable pub write_header : Header Pooled → ℕ → List ℕ → Outcome Unit
  write_header x at out = write_at (header_refusal x) (header_octets letters (pooled_header_meaning x)) at out
