-- The words of a command are those of its class and method, which are known, and give it back.
use mathlib.Core.Path.{◌≡◌, refl, sym, ap}
use mathlib.Core.Bool.{Bool, true, false}
use mathlib.Core.List.{[], ◌∷◌}
use Prim.Native.Nat.{◌+◌, ◌*◌}
use mir.Val.{bool_byte}
use Rattle.method.specs.Kinds.Bits.{packed}
use lib.ListN.{length, drop}
use Rattle.method.specs.Fields.{Pooled}
use Rattle.method.specs.Commands as table
use Rattle.method.specs.Commands.{commands, known, fields_of, call}
use Rattle.method.specs.Words.{args_words, command_from}
use Rattle.method.specs.Layout.{zeros}
use Rattle.method.specs.AnswerOf.{command_of}
use Rattle.method.specs.declared.Command.{Command}
use Rattle.method.specs.declared.Command.TheVariants.{ConnectionStartOk, ConnectionTuneOk, ConnectionOpen, ChannelOpen, ChannelFlow, ChannelFlowOk, ChannelClose, ChannelCloseOk, ExchangeDeclare, ExchangeDelete, QueueDeclare, QueueBind, QueueUnbind, QueuePurge, QueueDelete, BasicQos, BasicConsume, BasicCancel, BasicPublish, BasicGet, BasicAck, BasicReject, BasicNack, ConfirmSelect, TxSelect}
use Rattle.method.proofs.WordLaws.{args-words}
use Rattle.method_words.specs.Words.{call_of}
use Rattle.method_words.specs.declared.Call.{Call}

abbrev Known : table.Command Pooled → Type 0
Known (call c m vs) = known c m ≡ true

command-known : (x : Command) → Known (command_of x)
unfolding command_of commands known
command-known (ConnectionStartOk user password) = refl
command-known (ConnectionTuneOk channel-max frame-max heartbeat) = refl
command-known (ConnectionOpen vhost) = refl
command-known ChannelOpen = refl
command-known (ChannelFlow active) = refl
command-known (ChannelFlowOk active) = refl
command-known (ChannelClose code text) = refl
command-known ChannelCloseOk = refl
command-known (ExchangeDeclare name kind durable) = refl
command-known (ExchangeDelete name if-unused) = refl
command-known (QueueDeclare queue durable) = refl
command-known (QueueBind queue exchange key) = refl
command-known (QueueUnbind queue exchange key) = refl
command-known (QueuePurge queue) = refl
command-known (QueueDelete queue) = refl
command-known (BasicQos size count global) = refl
command-known (BasicConsume queue tag no-ack) = refl
command-known (BasicCancel tag no-wait) = refl
command-known (BasicPublish exchange key) = refl
command-known (BasicGet queue no-ack) = refl
command-known (BasicAck tag multiple) = refl
command-known (BasicReject tag requeue) = refl
command-known (BasicNack tag multiple requeue) = refl
command-known (ConfirmSelect no-wait) = refl
command-known TxSelect = refl

words_back : (y : table.Command Pooled) → Known y
    → let r = call_of y in
    (y ≡ command_from r.class r.method r.words) × (known r.class r.method ≡ true)
words_back (call c m vs) f =
    let ws = args_words (fields_of c m) vs in
    (ap (call c m) (sym (args-words (fields_of c m) vs (drop (length ws) (zeros 8)))), f)

pub call_back : (x : Command) (r : Call) → r ≡ call_of (command_of x)
    → (command_of x ≡ command_from r.class r.method r.words) × (known r.class r.method ≡ true)
call_back x r e = rw e (words_back (command_of x) (command-known x))

-- flags in a word
pub one_flag : (p : Bool) → bool_byte p ≡ packed (true ∷ []) (p, tt)
one_flag true = refl
one_flag false = refl

pub two_flags : (p q : Bool) → bool_byte p + 2 * bool_byte q ≡ packed (true ∷ true ∷ []) (p, (q, tt))
two_flags true true = refl
two_flags true false = refl
two_flags false true = refl
two_flags false false = refl
