-- What goes with the bytes of a message (unix(7), "Ancillary messages"): the open files of descriptors that its sender names, and credentials.
use Rattle.std.specs.Prelude.{ℕ, zero, suc, ◌+◌, ◌==◌, ◌&&◌, Bool, not, nat_lt, List, [], ◌∷◌, ◌++◌, length, Option, Some, None, unwrap_or, Result, Ok, Err, if◌then◌else◌}
use Rattle.kernel_values.specs.Outcome.{◌>>=◌, ◌>>◌, refused_if}
use Rattle.kernel_values.specs.declared.errno.Errno.{Errno}
use Rattle.kernel_values.specs.declared.errno.Errno.TheVariants.{InvalidArgument, NotPermitted}
use Rattle.kernel_values.specs.declared.identity.Credentials.{Credentials}
use Rattle.message_layouts.specs.Contents.{credentials_in, right_at, rights_count}
use Rattle.message_layouts.specs.Controls.{Control, controls_of}
use Rattle.socket_tables.specs.declared.sending.Outgoing.{Outgoing}
use Rattle.open_files.specs.Descriptors.{open_file}
use Rattle.open_files.specs.declared.state.OpenFiles.{OpenFiles}

-- the open file of one of the descriptors in the data of a message: EBADF where it isn't open
abbrev pub serial_at : OpenFiles → List ℕ → ℕ → Result ℕ Errno
serial_at s content index = do
  f ← open_file s (right_at content index)
  Ok f.0

-- those of so many of them, from one on
unfoldable pub serials_from : OpenFiles → List ℕ → ℕ → ℕ → Result (List ℕ) Errno
serials_from s content index zero = Ok []
serials_from s content index (suc left) = do
  serial ← serial_at s content index
  others ← serials_from s content (index + 1) left
  Ok (serial ∷ others)

-- SCM_RIGHTS: no more than 253 of one send, then EBADF
abbrev pub with_rights : OpenFiles → Outgoing → List ℕ → Result Outgoing Errno
with_rights s sent content = do
  refused_if (nat_lt 253 (length sent.rights + rights_count content)) InvalidArgument
  more ← serials_from s content 0 (rights_count content)
  Ok (record sent { rights = sent.rights ++ more })

abbrev pub same_credentials : Credentials → Credentials → Bool
same_credentials a b = (a.pid == b.pid) && ((a.uid == b.uid) && (a.gid == b.gid))

-- SCM_CREDENTIALS: 12 bytes, and without the privilege the process's own
abbrev pub with_credentials : Credentials → Bool → Outgoing → Option Credentials → Result Outgoing Errno
with_credentials own privileged sent None = Err InvalidArgument
with_credentials own privileged sent (Some c) = do
  refused_if (not privileged && not (same_credentials own c)) NotPermitted
  Ok (record sent { sender = c })

-- one control message: of another level than SOL_SOCKET, 1, it is passed over
unfoldable pub with_control : OpenFiles → Credentials → Bool → Outgoing → Control → Result Outgoing Errno
with_control s own privileged sent c =
    if not (c.level == 1) then Ok sent
    else if c.kind == 1 then with_rights s sent c.content
    else if c.kind == 2 then with_credentials own privileged sent (credentials_in c.content)
    else Err InvalidArgument

-- all of them, message by message: the rights of all, and the last credentials
unfoldable pub with_controls : OpenFiles → Credentials → Bool → Outgoing → List Control → Result Outgoing Errno
with_controls s own privileged sent [] = Ok sent
with_controls s own privileged sent (c ∷ cs) = do
  more ← with_control s own privileged sent c
  with_controls s own privileged more cs

-- what control bytes of the kernel's own layout add to the process's own credentials
abbrev pub outgoing : OpenFiles → Credentials → Bool → List ℕ → Result Outgoing Errno
outgoing s own privileged controls = with_controls s own privileged (record { rights = []; sender = own }) (unwrap_or (controls_of 8 controls) [])
