-- Properties read in one pass: what is told is what the reader of properties gives, else nothing is changed.
use Rattle.std.specs.Prelude.{◌≡◌, List, ℕ, Option, Some, None, Ok}
use Rattle.tables.specs.Letters.{Letters}
use Rattle.method_words.specs.Words.{header_words}
use Rattle.method_words.specs.InWords.{words_outcome, in_words}
use Rattle.method_reader.specs.Fields.{read_properties}
use Rattle.method_reader.specs.AnswerOf.{answer_of_header_words}
use Rattle.method_reader.specs.declared.HeaderRead.{HeaderRead}
use Rattle.method_reader.specs.declared.head.Head.{Head}
use Rattle.types.specs.declared.Cursor.{Cursor}

-- tape and words at entry, then at exit
abbrev pub ReadOnce : Letters → Head → List ℕ → ℕ → ℕ → List ℕ → List ℕ → List ℕ → List ℕ → Option (HeaderRead × Cursor) → Type 0
ReadOnce letters head s at used tape words tape_after words_after (Some read) =
    words_outcome (answer_of_header_words (Ok read) words_after) words_after tape_after
    ≡ in_words header_words (λ x. x.words) words (read_properties letters head.class head.body_size head.present s at used tape)
ReadOnce letters head s at used tape words tape_after words_after None = (tape_after ≡ tape) × (words_after ≡ words)
