-- The reply readers: document 01, "frame.rs: frames and the walk", at the end. They check no ids and ignore what follows.
use Rattle.std.specs.Prelude.{List, ℕ}
use Rattle.types.specs.Answer.{Answer, given, and_then}
use Rattle.types.specs.Octets.{uint_at}
use Rattle.types.specs.Strings.{short_str_at}
use Rattle.types.specs.declared.Span.{Span}
use Rattle.replies.specs.declared.MethodId.{MethodId}
use Rattle.replies.specs.declared.TuneParams.{TuneParams}

-- class and method
abbrev pub method_id_at : List ℕ → ℕ → Answer MethodId
method_id_at s p = and_then (uint_at 2 s p) (λ c q. and_then (uint_at 2 s q) (λ m r. given (record { class = c; method = m }) r))

-- the same, passed over; and what follows
abbrev pub skip_ids_at : List ℕ → ℕ → Answer Unit
skip_ids_at s p = and_then (method_id_at s p) (λ id q. given tt q)

abbrev pub after_ids : {A : Type 0} → (List ℕ → ℕ → Answer A) → List ℕ → ℕ → Answer A
after_ids read s p = and_then (skip_ids_at s p) (λ ids q. read s q)

abbrev pub tune_params_at : List ℕ → ℕ → Answer TuneParams
tune_params_at s p =
    and_then (uint_at 2 s p)
    (λ c q.
    and_then (uint_at 4 s q)
    (λ f r. and_then (uint_at 2 s r) (λ h t. given (record { channel_max = c; frame_max = f; heartbeat = h }) t)))

abbrev pub connection_tune_params_at : List ℕ → ℕ → Answer TuneParams
connection_tune_params_at = after_ids tune_params_at

abbrev pub queue_declare_ok_name_at : List ℕ → ℕ → Answer Span
queue_declare_ok_name_at = after_ids short_str_at

abbrev pub basic_consume_ok_tag_at : List ℕ → ℕ → Answer Span
basic_consume_ok_tag_at = after_ids short_str_at

abbrev pub queue_op_ok_message_count_at : List ℕ → ℕ → Answer ℕ
queue_op_ok_message_count_at = after_ids (uint_at 4)

abbrev pub basic_get_ok_delivery_tag_at : List ℕ → ℕ → Answer ℕ
basic_get_ok_delivery_tag_at = after_ids (uint_at 8)

-- behind the consumer tag
abbrev pub basic_deliver_delivery_tag_at : List ℕ → ℕ → Answer ℕ
basic_deliver_delivery_tag_at s p = and_then (after_ids short_str_at s p) (λ tag q. uint_at 8 s q)

abbrev pub basic_ack_delivery_tag_at : List ℕ → ℕ → Answer ℕ
basic_ack_delivery_tag_at = after_ids (uint_at 8)

-- behind class and weight, which stand as class and method do
abbrev pub content_header_body_size_at : List ℕ → ℕ → Answer ℕ
content_header_body_size_at = after_ids (uint_at 8)
