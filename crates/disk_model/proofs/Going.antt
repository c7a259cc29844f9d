-- How a run of calls goes on.
use Rattle.std.proofs.Common.{◌≡◌, ◌⊎◌, inl, inr, ⊎_elim, ℕ, ◌<◌, ◌≤◌, subst, sym, refl, ◌∙◌, arith, ◌↔◌}
use Rattle.seg_words.proofs.Lemmas.{cases_order}
use Rattle.disk_model.specs.Types.{Meaning, Now, SameImages, Elapses, Leaves, Causes, Untouched, Files}
use Rattle.seg_words.specs.Types.{Rose}

module _ {D : Type 0} (meaning : Meaning D) where
  -- before the first call
  pub started : (old : D) (P : Files → Type 0) → ((image : Files) → Now meaning old image → P image) → Leaves meaning old old P
  started old P now = record {
    later = omega arith;
    each = λ m image le is. elim (cases_order m (meaning.clock old)) [
      | inl same ↦ inr (omega arith, now image (subst (λ (n : ℕ). meaning.crash_at old n image) same is))
      | inr (inl lt) ↦ inl (lt, is)
      | inr (inr gt) ↦ absurd (omega arith)
    ];
  }

  -- one call more
  pub goes_on : (old mid new : D) (P : Files → Type 0) → Leaves meaning old mid P → Elapses meaning mid new → ((image : Files) → Now meaning new image → P image) → Leaves meaning old new P
  goes_on old mid new P so_far time now = record { later = omega (arith, so_far.later, time.later); each = each }
    where
      each : (m : ℕ) (image : Files) → m ≤ meaning.clock new → meaning.crash_at new m image → ((m < meaning.clock old) × meaning.crash_at old m image) ⊎ ((meaning.clock old ≤ m) × P image)
      each m image le is = elim (cases_order m (meaning.clock mid)) [
        | inl same ↦ ⊎_elim (λ was. so_far.each m image (omega arith) (subst (λ (n : ℕ). meaning.crash_at mid n image) (sym same) was)) (λ here. inr (omega (arith, so_far.later), now image here)) ((time.during image).0 (subst (λ (n : ℕ). meaning.crash_at new n image) same is))
        | inr (inl lt) ↦ so_far.each m image (omega arith) ((time.past m image lt).0 is)
        | inr (inr gt) ↦ (let same : m ≡ meaning.clock new = omega (arith, time.tick) in inr (omega (arith, so_far.later), now image (subst (λ (n : ℕ). meaning.crash_at new n image) same is)))
      ]

  -- what holds of each image, in weaker words
  pub weaker : (old new : D) (P Q : Files → Type 0) → Leaves meaning old new P → ((image : Files) → P image → Q image) → Leaves meaning old new Q
  weaker old new P Q leaves f = record {
    later = leaves.later;
    each = λ m image le is. ⊎_elim inl (λ now. inr (now.0, f image now.1)) (leaves.each m image le is);
  }

  -- one run after another
  pub then_leaves : (old mid new : D) (P : Files → Type 0) → Leaves meaning old mid P → Leaves meaning mid new P → Leaves meaning old new P
  then_leaves old mid new P first second = record {
    later = omega (arith, first.later, second.later);
    each = λ m image le is. ⊎_elim (λ was. first.each m image (omega (arith, was.0)) was.1) (λ now. inr (omega (arith, first.later, now.0), now.1)) (second.each m image le is);
  }

-- a call that makes no write
pub makes_no_write : {D : Type 0} (meaning : Meaning D) (old new : D) → Elapses meaning old new → SameImages meaning old new → Leaves meaning old new (Now meaning old)
makes_no_write meaning old new time same = goes_on meaning old old new (Now meaning old) (started meaning old (Now meaning old) (λ image is. is)) time (λ image is. (same image).0 is)

-- a cause, over two runs
pub rose_first : (a b c : ℕ) → Rose a b → b ≤ c → Rose a c
rose_first a b c rose le = omega (arith, rose)

pub rose_later : (a b c : ℕ) → a ≤ b → Rose b c → Rose a c
rose_later a b c le rose = omega (arith, rose)

pub causes_then : {D : Type 0} (meaning : Meaning D) (old mid new : D) (A B C : Type 0) → Causes meaning old mid A → Causes meaning mid new B → (C → B) → Causes meaning old new C
causes_then meaning old mid new A B C first second f = record {
  later = omega (arith, first.later, second.later);
  rose = λ c. rose_later _ _ _ first.later (second.rose (f c));
}

module _ {D : Type 0} (meaning : Meaning D) where
  pub untouched_start : (old : D) → Untouched meaning old old
  untouched_start old = record { told = (λ is. is, λ is. is); files = λ told. refl; images = λ image. (λ is. is, λ is. is); leaves = started meaning old (Now meaning old) (λ image is. is) }

  pub untouched_call : (old new : D) → (meaning.told new ↔ meaning.told old) → (meaning.told old → meaning.files new ≡ meaning.files old) → SameImages meaning old new → Elapses meaning old new → Untouched meaning old new
  untouched_call old new told files images time = record { told = told; files = files; images = images; leaves = makes_no_write meaning old new time images }

  pub untouched_then : (old mid new : D) → Untouched meaning old mid → Untouched meaning mid new → Untouched meaning old new
  untouched_then old mid new first second = record {
    told = (λ is. first.told.0 (second.told.0 is), λ is. second.told.1 (first.told.1 is));
    files = λ told. second.files (first.told.1 told) ∙ first.files told;
    images = λ image. (λ is. (first.images image).0 ((second.images image).0 is), λ is. (second.images image).1 ((first.images image).1 is));
    leaves = then_leaves meaning old mid new (Now meaning old) first.leaves (weaker meaning mid new (Now meaning mid) (Now meaning old) second.leaves (λ image is. (first.images image).0 is));
  }
