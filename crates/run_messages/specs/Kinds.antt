-- The kinds of a term's node, as in the constants of the notation's kinds.rt.
use Rattle.std.specs.Prelude.{ℕ}

-- a node that is no turn
abbrev pub idle_kind : ℕ
idle_kind = 0

-- sends, and by how much the kind of the recv of what a send sends is higher
abbrev pub send_unit_kind : ℕ
send_unit_kind = 1

abbrev pub send_channel_kind : ℕ
send_channel_kind = 2

abbrev pub send_label_kind : ℕ
send_label_kind = 3

abbrev pub recv_over : ℕ
recv_over = 5

abbrev pub recv_unit_kind : ℕ
recv_unit_kind = 6

abbrev pub recv_channel_kind : ℕ
recv_channel_kind = 7

abbrev pub recv_label_kind : ℕ
recv_label_kind = 8

-- the others that the step at a place tells apart
abbrev pub spawn_kind : ℕ
spawn_kind = 5

abbrev pub fwd_kind : ℕ
fwd_kind = 9

abbrev pub call_kind : ℕ
call_kind = 10

abbrev pub raise_kind : ℕ
raise_kind = 11
