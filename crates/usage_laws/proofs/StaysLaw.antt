-- What a settling leaves.
use Rattle.std.proofs.Common.{◌≡◌, ℕ, true, false, cond, List, ◌∷◌, refl, sym, ◌∙◌, ap, ap₂, ne_eqb, true≢false}
use Rattle.seg_words.proofs.Lemmas.{cond-true, cond-false}
use Rattle.seg_words.specs.Types.{Shape, Slot, ListEntry}
use Rattle.redo_model.specs.Records.{Record, Class, Clean, CleanRecord, ClassRecord}
use Rattle.redo_model.specs.Model.{block_of, entry, kept_class}
use Rattle.settle_laws.specs.Cleaned.{CleanSettles}
use Rattle.settle_laws.proofs.CleanedLaw.{cleans_settle}
use Rattle.usage_laws.specs.Drafts.{drafted_clean, calls_for_clean, with_clean, ruled_class, drafted_class, calls_for_class, with_class, settled}
use Rattle.usage_laws.specs.Settling.{SettledOnly, SettledStays, SettledBlocks}
use Rattle.usage_laws.proofs.CleanLaw.{cleans_are_allowed}
use Rattle.usage_laws.proofs.CallsLaw.{class_is, class_off}
use Rattle.usage_laws.proofs.SettledLaw.{ruled_same, settled_needs_nothing}

-- one record

other_block : (R : List Record) (c : CleanRecord) (d : ℕ) → (c.dba ≡ d → ⊥) → block_of (Clean c ∷ R) d ≡ block_of R d
other_block R c d n =
    let out = ne_eqb c.dba d n in
    ap₂ (λ (ss : List Slot) (es : List ListEntry). record { slots = ss; entries = es }) (cond-false _ _ _ out) (cond-false _ _ _ out)

clean_only : (sh : Shape) (R : List Record) (c : CleanRecord) → CleanSettles R c → SettledOnly sh R (Clean c ∷ R) c.dba
clean_only sh R c s = record {
  table = λ o m n. refl;
  view = λ o m t n. refl;
  commits = refl;
  rows = refl;
  begins = refl;
  active = λ t. refl;
  number = λ t. refl;
  forgotten = λ t. refl;
  standing = refl;
  extents = λ o. refl;
  low = λ o. refl;
  high = λ o. refl;
  pctfree = λ o. refl;
  formatted = λ d. refl;
  used = s.used;
  blocks = other_block R c;
  kept = λ d n. refl;
}

same_only : (sh : Shape) (R : List Record) (b : ℕ) → SettledOnly sh R R b
same_only sh R b = record {
  table = λ o m n. refl;
  view = λ o m t n. refl;
  commits = refl;
  rows = refl;
  begins = refl;
  active = λ t. refl;
  number = λ t. refl;
  forgotten = λ t. refl;
  standing = refl;
  extents = λ o. refl;
  low = λ o. refl;
  high = λ o. refl;
  pctfree = λ o. refl;
  formatted = λ d. refl;
  used = λ d. refl;
  blocks = λ d n. refl;
  kept = λ d n. refl;
}

class_only : (sh : Shape) (R S : List Record) (k : ClassRecord) → SettledOnly sh R S k.dba → SettledOnly sh R (Class k ∷ S) k.dba
class_only sh R S k s = record {
  table = s.table;
  view = s.view;
  commits = s.commits;
  rows = s.rows;
  begins = s.begins;
  active = s.active;
  number = s.number;
  forgotten = s.forgotten;
  standing = s.standing;
  extents = s.extents;
  low = s.low;
  high = s.high;
  pctfree = s.pctfree;
  formatted = s.formatted;
  used = s.used;
  blocks = s.blocks;
  kept = λ d n. cond-false _ _ _ (ne_eqb k.dba d n) ∙ s.kept d n;
}

cleaned_only : (sh : Shape) (R : List Record) (b : ℕ) → CleanSettles R (drafted_clean R b) → SettledOnly sh R (with_clean R b) b
cleaned_only sh R b s = elim (calls_for_clean R b) as (λ v. SettledOnly sh R (cond v (Clean (drafted_clean R b) ∷ R) R) b) [ true ↦ clean_only sh R (drafted_clean R b) s | false ↦ same_only sh R b ]

pub settled_stays : SettledStays
settled_stays sh R o b h t here =
    let s = cleaned_only sh R b (cleans_settle sh R (drafted_clean R b) (cleans_are_allowed sh R o b h here).allowed) in
    elim (calls_for_class (with_clean R b) o b) as (λ v. SettledOnly sh R (cond v (Class (drafted_class sh (with_clean R b) o b) ∷ with_clean R b) (with_clean R b)) b) [
      | true ↦ class_only sh R (with_clean R b) (drafted_class sh (with_clean R b) o b) s
      | false ↦ s
    ]

-- the block itself

-- a Class leaves all blocks, and transactions
block_classed : (sh : Shape) (S : List Record) (o b : ℕ) → block_of (with_class sh S o b) b ≡ block_of S b
block_classed sh S o b = elim (calls_for_class S o b) as (λ v. block_of (cond v (Class (drafted_class sh S o b) ∷ S) S) b ≡ block_of S b) [ true ↦ refl | false ↦ refl ]

entry_classed : (sh : Shape) (S : List Record) (o b i : ℕ) → entry (with_class sh S o b) b i ≡ entry S b i
entry_classed sh S o b i = elim (calls_for_class S o b) as (λ v. entry (cond v (Class (drafted_class sh S o b) ∷ S) S) b i ≡ entry S b i) [ true ↦ refl | false ↦ refl ]

ruled_classed : (sh : Shape) (S : List Record) (o b : ℕ) → ruled_class (with_class sh S o b) o b ≡ ruled_class S o b
ruled_classed sh S o b = elim (calls_for_class S o b) as (λ v. ruled_class (cond v (Class (drafted_class sh S o b) ∷ S) S) o b ≡ ruled_class S o b) [ true ↦ refl | false ↦ refl ]

pub settled_blocks : SettledBlocks
settled_blocks sh R o b h t here =
    let kept : kept_class (settled sh R o b) b ≡ ruled_class R o b = (settled_needs_nothing sh R o b h t here).class ∙ ruled_classed sh (with_clean R b) o b ∙ ruled_same sh R o b h here in
    let settles = cleans_settle sh R (drafted_clean R b) (cleans_are_allowed sh R o b h here).allowed in
    record {
      same = λ n. block_classed sh (with_clean R b) o b ∙ ap (λ (S : List Record). block_of S b) (cond-false _ _ _ n);
      entries = λ y i u l e. settles.entries i u l (ap (λ (x : ListEntry). x.txn) (sym (entry_classed sh (with_clean R b) o b i ∙ ap (λ (S : List Record). entry S b i) (cond-true _ _ _ y))) ∙ e);
      kept = kept;
      class_same = λ n. kept ∙ sym (class_is R o b n);
      class_changed = λ y e. true≢false (sym y ∙ class_off R o b (sym e ∙ kept));
    }
