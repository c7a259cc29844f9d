use Rattle.std.proofs.Common.{◌≡◌, ℕ, List, ap, ◌∙◌, sym}
use Rattle.undo_block.specs.Types.{Part, UndoPage, fields_of, spelling}
use Rattle.undo_block.proofs.page.UndoBlockPageForm.write.Goals as goal

pub returns : goal.returns
returns c =
    let u : UndoPage = c.args.self.now in
    let fields : c.fields_of-fields.result ≡ fields_of c.sequence.result u.parts = c.fields_of-fields.ensures u.parts c.used.ensures.used (c.from.ensures ∙ c.count.ensures.count) in
    let written : c.write_page.new.out ≡ spelling (record { dba = c.dba.result; lsn = c.lsn.result; sequence = c.sequence.result; parts = c.all_parts.result.now })
    = c.write_page.ensures c.sequence.result (fields ∙ ap (λ (ps : List Part). fields_of c.sequence.result ps) (sym c.all_parts.ensures.same)) in
    written
    ∙ ap (λ (d : ℕ). spelling (record { dba = d; lsn = c.lsn.result; sequence = c.sequence.result; parts = c.all_parts.result.now })) c.dba.ensures
    ∙ ap (λ (d : ℕ). spelling (record { dba = u.dba; lsn = d; sequence = c.sequence.result; parts = c.all_parts.result.now })) c.lsn.ensures
    ∙ ap (λ (d : ℕ). spelling (record { dba = u.dba; lsn = u.lsn; sequence = d; parts = c.all_parts.result.now })) c.sequence.ensures
    ∙ ap (λ (ps : List Part). spelling (record { dba = u.dba; lsn = u.lsn; sequence = u.sequence; parts = ps })) c.all_parts.ensures.same
