-- A disk that was only read has the store that it had.
use Rattle.std.proofs.Common.{◌≡◌, ℕ, List, refl, sym, ap, subst, ◌∙◌}
use Rattle.seg_words.specs.Types.{Shape}
use Rattle.disk_model.specs.Types.{Files, Meaning, Untouched, content}
use Rattle.disk_model.specs.declared.disk.File.TheVariants.{Data}
use Rattle.disk_model.proofs.Going.{untouched_start, untouched_then}
use Rattle.page_store.specs.Types.{IsShut, IsStore}
use Rattle.buffer_pool.specs.Frames.{Pool, Keeps, SameDirty}
use Rattle.buffer_pool.specs.Looks.{Looks}
use Rattle.buffer_pool.proofs.Drops.{keeps_itself, keeps_then, dirty_itself, dirty_then}

pub store_stays : {D : Type 0} (meaning : Meaning D) (old new : D) (sh : Shape) (pages : ℕ → List ℕ) → IsStore meaning old sh pages → Untouched meaning old new → IsStore meaning new sh pages
store_stays meaning old new sh pages s u =
    let same = u.files s.settled.told in
    record {
      settled = record {
        told = u.told.1 s.settled.told;
        durable = λ image now. s.settled.durable image ((u.images image).0 now) ∙ ap (content Data) (sym same);
      };
      file = subst (λ (f : Files). IsShut sh pages f.data_bytes) (sym same) s.file;
    }

module _ {D : Type 0} (meaning : Meaning D) where
  pub looks_start : (disk : D) (pool : Pool) → Looks meaning disk disk pool pool
  looks_start disk pool = record {
    untouched = untouched_start meaning disk;
    reads = λ told. refl;
    shape = refl;
    dirty = refl;
    same = dirty_itself pool.held;
    shows = λ pages s. keeps_itself pages pool.held;
  }

  pub looks_then : (a b c : D) (p q r : Pool) → Looks meaning a b p q → Looks meaning b c q r → Looks meaning a c p r
  looks_then a b c p q r x y = record {
    untouched = untouched_then meaning a b c x.untouched y.untouched;
    reads = λ told. y.reads (x.untouched.told.1 told) ∙ x.reads told;
    shape = y.shape ∙ x.shape;
    dirty = y.dirty ∙ x.dirty;
    same = dirty_then p.held q.held r.held x.same y.same;
    shows = λ pages s.
        keeps_then pages p.held q.held r.held (x.shows pages s)
        (y.shows pages (subst (λ (sh : Shape). IsStore meaning b sh pages) (sym x.shape) (store_stays meaning a b p.shape pages s x.untouched)));
  }

pub looks_kept : {D : Type 0} (meaning : Meaning D) (disk : D) (old new : Pool) → new.shape ≡ old.shape → new.dirty ≡ old.dirty → SameDirty old.held new.held → ((pages : ℕ → List ℕ) → Keeps pages old.held new.held) → Looks meaning disk disk old new
looks_kept meaning disk old new shape dirty same keeps = record {
  untouched = untouched_start meaning disk;
  reads = λ told. refl;
  shape = shape;
  dirty = dirty;
  same = same;
  shows = λ pages s. keeps pages;
}
