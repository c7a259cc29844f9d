-- What is known of a true store, and after further calls that only look at it.
use Rattle.std.proofs.Common.{◌≡◌, ◌≤◌, ℕ, true, List, sym, ◌∙◌, ap, subst}
use Rattle.std.specs.Prelude.{Result}
use Rattle.seg_words.specs.Types.{MOST_PCTFREE, Shape, is_shape}
use Rattle.disk_model.specs.Crash.{Meaning}
use Rattle.redo_model.specs.Records.{Record}
use Rattle.redo_model.specs.Model.{IsTable, IsLawful, AreAllowed}
use Rattle.txn_block.specs.Types.{TxnTable}
use Rattle.version_laws.specs.Types.{HoldsTable}
use Rattle.version_laws.proofs.TableLaw.{tables_tell}
use Rattle.segment_read.specs.declared.segment.Segment.{Segment}
use Rattle.segment_read.specs.Segments.{IsSegment}
use Rattle.store_core.specs.Store.{Held, IsTrue}
use Rattle.store_core.specs.Causes.{HasLooked}
use Rattle.store_core.specs.declared.fault.StoreFault.{StoreFault}
use Rattle.shrink_move.specs.declared.ground.Ground.{Ground}
use Rattle.shrink_move.specs.Known.{Knows}

pub knows_later : {D A : Type 0} (meaning : Meaning D) (a b : Held D) (R : List Record) (o : ℕ) (g : Ground) (r : Result A StoreFault) → HasLooked meaning a b r → Knows meaning R o a g → Knows meaning R o b g
knows_later meaning a b R o g r p k = record {
  holds = p.stays_true R k.holds;
  table = k.table;
  shape = k.shape ∙ sym p.loan.shape;
  segment = k.segment;
  holds_table = k.holds_table;
  ended = k.ended;
  percent = k.percent;
}

-- what was read
pub knows_read : {D A : Type 0} (meaning : Meaning D) (a b : Held D) (R : List Record) (o : ℕ) (sh : Shape) (g : Segment) (q : TxnTable) (r : Result A StoreFault) → sh ≡ a.shape → HasLooked meaning a b r → IsTrue meaning R a → IsTable R o → IsSegment a.shape R o g → HoldsTable R q → g.pctfree ≤ MOST_PCTFREE → Knows meaning R o b (record { shape = sh; segment = g; table = q })
knows_read meaning a b R o sh g q r e p t i is holds most = record {
  holds = p.stays_true R t;
  table = i;
  shape = e ∙ sym p.loan.shape;
  segment = subst (λ (s : Shape). IsSegment s R o g) (sym e) is;
  holds_table = holds;
  ended = (tables_tell a.shape R q t.lawful.allowed holds).ended;
  percent = most;
}

-- by the shape that was read
pub segment_there : {D : Type 0} (meaning : Meaning D) (s : Held D) (R : List Record) (o : ℕ) (g : Ground) → Knows meaning R o s g → IsSegment s.shape R o g.segment
segment_there meaning s R o g k = subst (λ (z : Shape). IsSegment z R o g.segment) k.shape k.segment

pub lawful_here : {D : Type 0} (meaning : Meaning D) (s : Held D) (R : List Record) (o : ℕ) (g : Ground) → Knows meaning R o s g → IsLawful g.shape R
lawful_here meaning s R o g k = subst (λ (z : Shape). IsLawful z R) (sym k.shape) k.holds.lawful

pub allowed_here : {D : Type 0} (meaning : Meaning D) (s : Held D) (R : List Record) (o : ℕ) (g : Ground) → Knows meaning R o s g → AreAllowed g.shape R
allowed_here meaning s R o g k = (lawful_here meaning s R o g k).allowed

pub within_here : {D : Type 0} (meaning : Meaning D) (s : Held D) (R : List Record) (o : ℕ) (g : Ground) → Knows meaning R o s g → is_shape g.shape ≡ true
within_here meaning s R o g k = ap is_shape k.shape ∙ k.holds.list.within
