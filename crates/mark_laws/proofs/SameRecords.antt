-- Records of tables and marks with the same fields.
use Rattle.std.proofs.Common.{◌≡◌, ◌∙◌, ap}
use Rattle.redo_model.specs.Records.{TableRecord, MovementRecord, ExtendRecord, FormatBlockRecord, AdvanceRecord}

pub format_same : (f g : FormatBlockRecord) → f.obj ≡ g.obj → f.dba ≡ g.dba → f.l2 ≡ g.l2 → f.l3 ≡ g.l3 → f.index ≡ g.index → f.best_of_l1 ≡ g.best_of_l1 → f.best_of_l2 ≡ g.best_of_l2 → f ≡ g
format_same f g a b c d e h i =
    ap (λ x. record f { obj = x }) a
    ∙ ap (λ x. record f { obj = g.obj; dba = x }) b
    ∙ ap (λ x. record f { obj = g.obj; dba = g.dba; l2 = x }) c
    ∙ ap (λ x. record f { obj = g.obj; dba = g.dba; l2 = g.l2; l3 = x }) d
    ∙ ap (λ x. record f { obj = g.obj; dba = g.dba; l2 = g.l2; l3 = g.l3; index = x }) e
    ∙ ap (λ x. record f { obj = g.obj; dba = g.dba; l2 = g.l2; l3 = g.l3; index = g.index; best_of_l1 = x }) h
    ∙ ap (λ x. record f { obj = g.obj; dba = g.dba; l2 = g.l2; l3 = g.l3; index = g.index; best_of_l1 = g.best_of_l1; best_of_l2 = x }) i

pub advance_same : (f g : AdvanceRecord) → f.obj ≡ g.obj → f.header ≡ g.header → f.low ≡ g.low → f.high ≡ g.high → f ≡ g
advance_same f g a b c d =
    ap (λ x. record f { obj = x }) a
    ∙ ap (λ x. record f { obj = g.obj; header = x }) b
    ∙ ap (λ x. record f { obj = g.obj; header = g.header; low = x }) c
    ∙ ap (λ x. record f { obj = g.obj; header = g.header; low = g.low; high = x }) d

pub extend_same : (f g : ExtendRecord) → f.obj ≡ g.obj → f.header ≡ g.header → f.index ≡ g.index → f.extent ≡ g.extent → f.l2 ≡ g.l2 → f.l3 ≡ g.l3 → f ≡ g
extend_same f g a b c d e h =
    ap (λ x. record f { obj = x }) a
    ∙ ap (λ x. record f { obj = g.obj; header = x }) b
    ∙ ap (λ x. record f { obj = g.obj; header = g.header; index = x }) c
    ∙ ap (λ x. record f { obj = g.obj; header = g.header; index = g.index; extent = x }) d
    ∙ ap (λ x. record f { obj = g.obj; header = g.header; index = g.index; extent = g.extent; l2 = x }) e
    ∙ ap (λ x. record f { obj = g.obj; header = g.header; index = g.index; extent = g.extent; l2 = g.l2; l3 = x }) h

pub table_same : (f g : TableRecord) → f.obj ≡ g.obj → f.header ≡ g.header → f.pctfree ≡ g.pctfree → f.name ≡ g.name → f ≡ g
table_same f g a b c d =
    ap (λ x. record f { obj = x }) a
    ∙ ap (λ x. record f { obj = g.obj; header = x }) b
    ∙ ap (λ x. record f { obj = g.obj; header = g.header; pctfree = x }) c
    ∙ ap (λ x. record f { obj = g.obj; header = g.header; pctfree = g.pctfree; name = x }) d

pub movement_same : (f g : MovementRecord) → f.obj ≡ g.obj → f.header ≡ g.header → f.on ≡ g.on → f ≡ g
movement_same f g a b c =
    ap (λ x. record f { obj = x }) a
    ∙ ap (λ x. record f { obj = g.obj; header = x }) b
    ∙ ap (λ x. record f { obj = g.obj; header = g.header; on = x }) c
