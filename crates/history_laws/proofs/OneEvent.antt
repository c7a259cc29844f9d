-- What statements of one event add and tell.
use Rattle.std.proofs.Common.{◌≡◌, ℕ, List, ◌∷◌, Option, Some, None, refl, sym, ap, subst, eq-eqb, inl, inr}
use Rattle.seg_words.proofs.Lemmas.{cond-true}
use Rattle.seg_words.specs.Types.{Class as BlockClass}
use Rattle.redo_record.specs.declared.record.Record.TheVariants as made
use Rattle.redo_model.specs.Records.{Record, ClassRecord}
use Rattle.redo_model.specs.Model.{table_named}
use Rattle.session_laws.specs.Sessions.{own_of}
use Rattle.history_model.specs.TableMeans.{IsFixedTo}
use Rattle.history_laws.specs.OneEvent.{TablesTell, MovementsTell, CommitsTell, FixesTell, FixedTell}

pub tables_tell : TablesTell
tables_tell sh x name pctfree t e b n p = record {
  makes = record { named = n; share = p };
  means = (refl, record { table = t; extend = e; named = n; share = p; ends = ap (λ (R : List Record). made.Extend e ∷ made.Table t ∷ R) b });
}

pub movements_tell : MovementsTell
movements_tell sh x name on m b t s = record {
  makes = record { table = t; switched = s };
  means = (refl, refl, record { movement = m; table = subst (λ (R : List Record). table_named R name ≡ Some m.obj) b t; switched = s; ends = ap (λ (R : List Record). made.Movement m ∷ R) b });
}

pub commits_tell : CommitsTell
commits_tell sh x c b o = record { makes = o; means = record { commit = c; own = subst (λ (R : List Record). own_of R x.session ≡ Some c.txn) b o; number_is = refl; ends = ap (λ (R : List Record). made.Commit c ∷ R) b } }

-- the Class leaves what stands in each block
fixed_after : (R : List Record) (k : ClassRecord) (o b : ℕ) (value : Option ℕ) (c : BlockClass) → IsFixedTo R o b value c → IsFixedTo (made.Class k ∷ R) o b value c
fixed_after R k o b (Some value) c h = h
fixed_after R k o b None c h = h

pub fixes_tell : FixesTell
fixes_tell sh x name block value k b t d f = record {
  makes = record { table = t; block_is = d; fixed = f };
  means = (
    refl,
    record {
      obj = k.obj;
      table = subst (λ (R : List Record). table_named R name ≡ Some k.obj) b t;
      kept = sym (cond-true _ _ _ (eq-eqb k.dba block d));
      fixed = fixed_after x.ended k k.obj block value k.class f;
      adds = inr (record { class = k; block = d; ends = ap (λ (R : List Record). made.Class k ∷ R) b });
    },
  );
}

pub fixed_tell : FixedTell
fixed_tell sh x name block value o c b t k f = (refl, record { obj = o; table = subst (λ (R : List Record). table_named R name ≡ Some o) b t; kept = k; fixed = f; adds = inl b })
