-- What an open file is of.
use Rattle.std.specs.Prelude.{◌||◌, Bool, true, false}
use Rattle.kernel_values.specs.declared.items.OpenKind.{OpenKind}
use Rattle.kernel_values.specs.declared.items.OpenKind.TheVariants.{File, Directory, PipeRead, PipeWrite, Stream, Datagram, RuleSocket}

-- an open file is of a directory
abbrev pub is_of_directory : OpenKind → Bool
is_of_directory File = false
is_of_directory Directory = true
is_of_directory PipeRead = false
is_of_directory PipeWrite = false
is_of_directory Stream = false
is_of_directory Datagram = false
is_of_directory RuleSocket = false

-- an open file is an end of a pipe
abbrev pub is_of_pipe : OpenKind → Bool
is_of_pipe File = false
is_of_pipe Directory = false
is_of_pipe PipeRead = true
is_of_pipe PipeWrite = true
is_of_pipe Stream = false
is_of_pipe Datagram = false
is_of_pipe RuleSocket = false

-- an open file is of a file with bytes
abbrev pub is_of_file : OpenKind → Bool
is_of_file File = true
is_of_file Directory = false
is_of_file PipeRead = false
is_of_file PipeWrite = false
is_of_file Stream = false
is_of_file Datagram = false
is_of_file RuleSocket = false

-- an open file is a socket
abbrev pub is_of_socket : OpenKind → Bool
is_of_socket File = false
is_of_socket Directory = false
is_of_socket PipeRead = false
is_of_socket PipeWrite = false
is_of_socket Stream = true
is_of_socket Datagram = true
is_of_socket RuleSocket = true

-- an open file is a socket of rule tables
abbrev pub is_of_rules : OpenKind → Bool
is_of_rules File = false
is_of_rules Directory = false
is_of_rules PipeRead = false
is_of_rules PipeWrite = false
is_of_rules Stream = false
is_of_rules Datagram = false
is_of_rules RuleSocket = true

-- an open file is a datagram socket
abbrev pub is_of_datagrams : OpenKind → Bool
is_of_datagrams File = false
is_of_datagrams Directory = false
is_of_datagrams PipeRead = false
is_of_datagrams PipeWrite = false
is_of_datagrams Stream = false
is_of_datagrams Datagram = true
is_of_datagrams RuleSocket = false

-- an open file has no position: pipes and sockets
abbrev pub lacks_position : OpenKind → Bool
lacks_position kind = is_of_pipe kind || is_of_socket kind

-- an open file is the end of a pipe that is read from
abbrev pub is_reader : OpenKind → Bool
is_reader File = false
is_reader Directory = false
is_reader PipeRead = true
is_reader PipeWrite = false
is_reader Stream = false
is_reader Datagram = false
is_reader RuleSocket = false

-- an open file is the end of a pipe that is written to
abbrev pub is_writer : OpenKind → Bool
is_writer File = false
is_writer Directory = false
is_writer PipeRead = false
is_writer PipeWrite = true
is_writer Stream = false
is_writer Datagram = false
is_writer RuleSocket = false
