-- What a connection in memory has left and holds, and which of its calls fail.
use Rattle.std.specs.Prelude.{ℕ, List, Result, Ok, Err, length, min, if◌then◌else◌}
use Rattle.dra_ports.specs.Memory.{Plan, fails_next, left_of, piece_of, plan_of, written_of}
use Rattle.dra_ports.specs.declared.error.PortError.{PortError}
use Rattle.dra_ports.specs.declared.error.PortError.TheVariants.{Failed}
use Rattle.dra_ports.specs.declared.mem_conn.MemConn.{MemConn}

abbrev pub conn_left : MemConn → List ℕ
conn_left c = left_of c.input

abbrev pub conn_written : MemConn → List ℕ
conn_written c = written_of c.output

-- the most bytes that a read returns
abbrev pub conn_piece : MemConn → ℕ
conn_piece c = piece_of c.input

-- its reads and writes are counted together
abbrev pub conn_plan : MemConn → Plan
conn_plan c = plan_of c.failures

-- what a read into so much room returns
abbrev pub conn_answer : MemConn → ℕ → Result ℕ PortError
conn_answer c room = if fails_next (conn_plan c) then Err Failed else Ok (min (min (length (conn_left c)) (conn_piece c)) room)
