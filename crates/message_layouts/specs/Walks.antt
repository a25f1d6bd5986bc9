-- Control messages of the kernel's own layout, one after another.
use Rattle.std.specs.Prelude.{ℕ, List, []}
use Rattle.std.specs.Option.{unwrap_or}
use Rattle.message_layouts.specs.Controls.{Control, further_in}
use Rattle.message_layouts.specs.declared.native_controls.NativeControl.{NativeControl}

-- the message that is told
abbrev pub control_of : NativeControl → Control
control_of c = record { level = c.level; kind = c.kind; content = c.content.now }

-- the messages of bytes; none where they are not those of further messages
abbrev pub messages_in : List ℕ → List Control
messages_in bytes = unwrap_or (further_in 8 bytes) []
