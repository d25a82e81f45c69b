-- What the answers of the readers say.
use Rattle.std.specs.Prelude.{List, ℕ, Result}
use Rattle.types.specs.Answer.{Answer}
use Rattle.types.specs.AnswerOf.{answer_with}
use Rattle.types.specs.declared.Cursor.{Cursor}
use Rattle.types.specs.declared.WireError.{WireError}
use Rattle.types.specs.declared.Span.{Span}
use Rattle.tables.specs.Tape.{WithCount}
use Rattle.method.specs.Fields.{Pooled}
use Rattle.method.specs.Commands.{Command}
use Rattle.method.specs.Properties.{Header}
use Rattle.method.specs.AnswerOf.{command_of, header_of}
use Rattle.method.specs.declared.Command.{Command as CodeCommand}
use Rattle.method.specs.declared.ContentHeader.{ContentHeader}
use Rattle.method.specs.Kinds.Login.{Login}
use Rattle.method_words.specs.declared.Call.{Call}
use Rattle.method_words.specs.declared.HeaderWords.{HeaderWords}
use Rattle.method_reader.specs.declared.CallRead.{CallRead}
use Rattle.method_reader.specs.declared.HeaderRead.{HeaderRead}
use Rattle.method_reader.specs.declared.login.Login.{Login as CodeLogin}

-- in words: with the words that were lent, as they are at exit

abbrev pub answer_of_call : Result (CallRead × Cursor) WireError → List ℕ → Answer (WithCount Call)
answer_of_call r words = answer_with (λ c. record { value = record { class = c.class; method = c.method; words = words }; count = c.records }) r

abbrev pub answer_of_header_words : Result (HeaderRead × Cursor) WireError → List ℕ → Answer (WithCount HeaderWords)
answer_of_header_words r words =
    answer_with (λ h. record { value = record { class = h.class; body_size = h.body_size; present = h.present; words = words }; count = h.records }) r

abbrev pub answer_of_command : Result (WithCount CodeCommand × Cursor) WireError → Answer (WithCount (Command Pooled))
answer_of_command = answer_with (λ w. record { value = command_of w.value; count = w.count })

abbrev pub answer_of_header : Result (WithCount ContentHeader × Cursor) WireError → Answer (WithCount (Header Pooled))
answer_of_header = answer_with (λ w. record { value = header_of w.value; count = w.count })

-- Within the crate

abbrev pub login_of : CodeLogin → Login Span
login_of l = record { user = l.user; password = l.password }
