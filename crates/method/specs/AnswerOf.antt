-- The document's class, method, arguments and properties for every case of the code's commands and headers.
use Rattle.std.specs.Prelude.{Bool, true, false, List, [], ◌∷◌}
use Rattle.std.specs.Prelude.{Option, None, Some}
use Rattle.method.specs.Fields.{Kind, Field, fixed, arg, Pooled, Args}
use Rattle.method.specs.Commands as table
use Rattle.method.specs.Commands.{commands, fields_of, call}
use Rattle.method.specs.Properties.{properties, select, Header, header}
use Rattle.method.specs.declared.Command.{Command}
use Rattle.method.specs.declared.Command.TheVariants.{ConnectionStartOk, ConnectionTuneOk, ConnectionOpen, ChannelOpen, ChannelFlow, ChannelFlowOk, ChannelClose, ChannelCloseOk, ExchangeDeclare, ExchangeDelete, QueueDeclare, QueueBind, QueueUnbind, QueuePurge, QueueDelete, BasicQos, BasicConsume, BasicCancel, BasicPublish, BasicGet, BasicAck, BasicReject, BasicNack, ConfirmSelect, TxSelect}
use Rattle.method.specs.declared.ContentProperties.{ContentProperties}
use Rattle.method.specs.declared.ContentHeader.{ContentHeader}

unfoldable pub command_of : Command → table.Command Pooled
unfolding fields_of commands
command_of (ConnectionStartOk user password) = call 10 11 (record { user = user; password = password }, tt)
command_of (ConnectionTuneOk channel-max frame-max heartbeat) = call 10 31 (channel-max, (frame-max, (heartbeat, tt)))
command_of (ConnectionOpen vhost) = call 10 40 (vhost, tt)
command_of ChannelOpen = call 20 10 tt
command_of (ChannelFlow active) = call 20 20 ((active, tt), tt)
command_of (ChannelFlowOk active) = call 20 21 ((active, tt), tt)
command_of (ChannelClose code text) = call 20 40 (code, (text, tt))
command_of ChannelCloseOk = call 20 41 tt
command_of (ExchangeDeclare name kind durable) = call 40 10 (name, (kind, ((durable, tt), tt)))
command_of (ExchangeDelete name if-unused) = call 40 20 (name, ((if-unused, tt), tt))
command_of (QueueDeclare queue durable) = call 50 10 (queue, ((durable, tt), tt))
command_of (QueueBind queue exchange key) = call 50 20 (queue, (exchange, (key, tt)))
command_of (QueueUnbind queue exchange key) = call 50 50 (queue, (exchange, (key, tt)))
command_of (QueuePurge queue) = call 50 30 (queue, tt)
command_of (QueueDelete queue) = call 50 40 (queue, tt)
command_of (BasicQos size count global) = call 60 10 (size, (count, ((global, tt), tt)))
command_of (BasicConsume queue tag no-ack) = call 60 20 (queue, (tag, ((no-ack, tt), tt)))
command_of (BasicCancel tag no-wait) = call 60 30 (tag, ((no-wait, tt), tt))
command_of (BasicPublish exchange key) = call 60 40 (exchange, (key, tt))
command_of (BasicGet queue no-ack) = call 60 70 (queue, ((no-ack, tt), tt))
command_of (BasicAck tag multiple) = call 60 80 (tag, ((multiple, tt), tt))
command_of (BasicReject tag requeue) = call 60 90 (tag, ((requeue, tt), tt))
command_of (BasicNack tag multiple requeue) = call 60 120 (tag, ((multiple, (requeue, tt)), tt))
command_of (ConfirmSelect no-wait) = call 85 10 ((no-wait, tt), tt)
command_of TxSelect = call 90 10 tt

-- Properties, each there or not

abbrev pub Optional : Kind → Type 0
Optional k = Option (Pooled k)

abbrev pub is_there : {A : Type 0} → Option A → Bool
is_there None = false
is_there (Some a) = true

abbrev pub present : (fs : List Field) → Args Optional fs → List Bool
present [] vs = []
present (fixed xs ∷ fs) vs = true ∷ present fs vs
present (arg k ∷ fs) vs = is_there vs.0 ∷ present fs vs.1

abbrev pub with_first : (k : Kind) (fs : List Field) (ps : List Bool) (v : Option (Pooled k)) → Args Pooled (select ps fs) → Args Pooled (select (is_there v ∷ ps) (arg k ∷ fs))
unfolding select
with_first k fs ps None vs = vs
with_first k fs ps (Some v) vs = (v, vs)

-- those that are there
unfoldable pub chosen : (fs : List Field) (vs : Args Optional fs) → Args Pooled (select (present fs vs) fs)
unfolding select
chosen [] vs = tt
chosen (fixed xs ∷ fs) vs = chosen fs vs
chosen (arg k ∷ fs) vs = with_first k fs (present fs vs.1) vs.0 (chosen fs vs.1)

unfoldable pub properties_of : ContentProperties → Args Optional properties
unfolding properties
properties_of p = (
  p.content_type,
  (
    p.content_encoding,
    (
      p.headers,
      (
        p.delivery_mode,
        (
          p.priority,
          (
            p.correlation_id,
            (
              p.reply_to,
              (
                p.expiration,
                (
                  p.message_id,
                  (
                    p.timestamp,
                    (p.type_, (p.user_id, (p.app_id, tt))),
                  ),
                ),
              ),
            ),
          ),
        ),
      ),
    ),
  ),
)

unfoldable pub header_of : ContentHeader → Header Pooled
header_of h =
    header h.class h.body_size (present properties (properties_of h.properties)) (chosen properties (properties_of h.properties))
