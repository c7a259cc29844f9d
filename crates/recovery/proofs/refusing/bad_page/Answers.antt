use Rattle.std.proofs.Common.{◌≡◌, ℕ, ◌*◌, ap, rules}
use Rattle.recovery.proofs.Refusals.{byte_read}
use Rattle.recovery.proofs.refusing.bad_page.Goals as goal

pub returns-in-Ok-clause-byte : goal.returns-in-Ok-clause-byte
returns-in-Ok-clause-byte g c = λ told.
    let number : c.from.result ≡ c.args.dba = search rules in
    (ap (λ (n : ℕ). n * 4096) number, byte_read (g.D.Disk.meaning.files c.args.disk.now).data_bytes (c.from.result * 4096) c.in-Ok._count c.read.new.buf (c.in-Ok.ensures.count told) (c.in-Ok.ensures.bytes told))

pub returns-in-Ok-clause-place : goal.returns-in-Ok-clause-place
returns-in-Ok-clause-place g c =
    let number : c.from.result ≡ c.args.dba = search rules in
    ap (λ (n : ℕ). n * 4096) number
