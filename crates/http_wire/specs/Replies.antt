-- The bytes of a reply (RFC 9112, section 4).
use Rattle.std.specs.Prelude.{ℕ, ◌≡◌, ◌≤◌, Bool, List, [], ◌∷◌, ◌++◌, Result, IfErr, IsErrOf, OnOk, codes, decimal, unwrap_or, length, if◌then◌else◌}
use Rattle.http.specs.StatusCode.{code_digits, reason_phrase}
use Rattle.dra_ports.specs.Causes.{Rose}
use Rattle.dra_ports.specs.declared.error.PortError.{PortError}
use Rattle.dra_ports.specs.declared.error.PortError.TheVariants as port
use Rattle.http_wire.specs.declared.error.WireError.{WireError}
use Rattle.http_wire.specs.declared.error.WireError.TheVariants as error
use Rattle.http_wire.specs.declared.reply.Reply.{Reply}

abbrev pub crlf : List ℕ
crlf = 13 ∷ 10 ∷ []

abbrev pub content_type : Bool → List ℕ
content_type json = if json then codes "application/json" else codes "text/plain"

-- a status line, the type and the length of the body, and an empty line
abbrev pub head_bytes : List ℕ → List ℕ → List ℕ → ℕ → List ℕ
head_bytes code phrase kind long =
    codes "HTTP/1.1 " ++ code ++ codes " " ++ phrase ++ crlf
    ++ codes "Content-Type: " ++ kind ++ crlf
    ++ codes "Content-Length: " ++ decimal long ++ crlf
    ++ crlf

-- the phrase that `http` has for the status; empty if it has none
unfoldable pub phrase_of : ℕ → List ℕ
phrase_of status = unwrap_or (reason_phrase status) []

-- the three digits of the status
unfoldable pub digits_of : ℕ → List ℕ
digits_of status = code_digits status

-- a head, and the body
unfoldable pub reply_bytes : Reply → List ℕ
reply_bytes r = head_bytes (digits_of r.status) (phrase_of r.status) (content_type r.json) (length r.body.items) ++ r.body.items

-- the error of a write that fails
abbrev pub write_error : PortError → WireError
write_error port.Failed = error.WriteFault
write_error port.Memory = error.Memory

-- the error count never falls, `WriteFault` is returned only if it rose or is at its last value, and with every
-- other result it does not change
pub record HasWriteCause (before now : ℕ) (result : Result (Unit {0}) WireError) : Type 0 where
  pub later : before ≤ now
  pub failed : IsErrOf result error.WriteFault → Rose before now
  pub ok : OnOk result (now ≡ before)
  pub other : IfErr result (λ e. (e ≡ error.WriteFault → ⊥) → now ≡ before)
