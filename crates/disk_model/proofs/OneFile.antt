-- A run of calls that changes one of the files alone.
use Rattle.std.proofs.Common.{◌≡◌, ℕ, List, refl, sym, ◌∙◌, ap, subst, Result, Ok, Err, OnOk, OnErr, ◌↔◌}
use Rattle.disk_model.specs.Types.{Files, content, put, Torn, TornFile, Meaning, Now, Elapses, Leaves, OnlyFile, File, Data, Log}
use Rattle.disk_model.proofs.Going.{started, goes_on, weaker, then_leaves}

pub put_content : (file : File) (files : Files) → files ≡ put file (content file files) files
put_content Data files = refl
put_content Log files = refl

pub content_put : (file : File) (bytes : List ℕ) (files : Files) → content file (put file bytes files) ≡ bytes
content_put Data bytes files = refl
content_put Log bytes files = refl

pub put_put : (file : File) (a b : List ℕ) (files : Files) → put file a (put file b files) ≡ put file a files
put_put Data a b files = refl
put_put Log a b files = refl

-- Since start a crash left files with A, and now it leaves files with B.
pub record So {D : Type 0} (meaning : Meaning D) (start now : D) (file : File) (A B : List ℕ → Type 0) : Type 0 where
  pub leaves : Leaves meaning start now (OnlyFile meaning start file A)
  pub images : (image : Files) → Now meaning now image → OnlyFile meaning start file B image

pub only_weaker : {D : Type 0} (meaning : Meaning D) (start : D) (file : File) (A B : List ℕ → Type 0) → ((bytes : List ℕ) → A bytes → B bytes) → (image : Files) → OnlyFile meaning start file A image → OnlyFile meaning start file B image
only_weaker meaning start file A B f image is = record { was = is.was; before = is.before; rest = is.rest; holds = f (content file image) is.holds }

module _ {D : Type 0} (meaning : Meaning D) (start : D) (file : File) where
  -- after a change of the same file, one more
  pub again : (mid : D) (B C : List ℕ → Type 0) → ((image : Files) → Now meaning mid image → OnlyFile meaning start file B image) → (image was : Files) → Now meaning mid was → image ≡ put file (content file image) was → (B (content file was) → C (content file image)) → OnlyFile meaning start file C image
  again mid B C before image was now rest f =
      let from = before was now in
      record {
        was = from.was;
        before = from.before;
        rest = rest ∙ ap (put file (content file image)) from.rest ∙ put_put file (content file image) (content file was) from.was;
        holds = f from.holds;
      }

  pub so_started : (A B : List ℕ → Type 0) → ((image : Files) → Now meaning start image → B (content file image)) → ((bytes : List ℕ) → B bytes → A bytes) → So meaning start start file A B
  so_started A B now f =
      let here : (image : Files) → Now meaning start image → OnlyFile meaning start file B image = λ image is. record { was = image; before = is; rest = put_content file image; holds = now image is } in
      record { leaves = started meaning start (OnlyFile meaning start file A) (λ image is. only_weaker meaning start file B A f image (here image is)); images = here }

  pub so_call : (A : List ℕ → Type 0) (mid new : D) (B C : List ℕ → Type 0) → So meaning start mid file A B → Elapses meaning mid new → ((image : Files) → Now meaning new image → OnlyFile meaning start file C image) → ((bytes : List ℕ) → C bytes → A bytes) → So meaning start new file A C
  so_call A mid new B C so time now f = record {
    leaves = goes_on meaning start mid new (OnlyFile meaning start file A) so.leaves time (λ image is. only_weaker meaning start file C A f image (now image is));
    images = now;
  }

  pub so_write : (A : List ℕ → Type 0) (mid new : D) (B C : List ℕ → Type 0) (at n : ℕ) → So meaning start mid file A B → Elapses meaning mid new
      → ((image : Files) → Now meaning new image → (was : Files) × Now meaning mid was × TornFile file at n was image)
      → ((b c : List ℕ) → B b → Torn at n b c → C c) → ((bytes : List ℕ) → C bytes → A bytes) → So meaning start new file A C
  so_write A mid new B C at n so time crash step f =
      so_call A mid new B C so time (λ image is. let from = crash image is in again mid B C so.images image from.0 from.1 from.2.other (λ b. step (content file from.0) (content file image) b from.2.torn)) f

  pub synced : (mid new : D) (B : List ℕ → Type 0) → ((image : Files) → Now meaning mid image → OnlyFile meaning start file B image) → ((image : Files) → Now meaning new image ↔ ((was : Files) × Now meaning mid was × (image ≡ put file (content file (meaning.files mid)) was)))
      → (image : Files) → Now meaning new image → OnlyFile meaning start file (λ (c : List ℕ). c ≡ content file (meaning.files mid)) image
  synced mid new B before durable image is =
      let from = (durable image).0 is in
      let bytes = content file (meaning.files mid) in
      let has : content file image ≡ bytes = ap (content file) from.2 ∙ content_put file bytes from.0 in
      again mid B (λ (c : List ℕ). c ≡ bytes) before image from.0 from.1 (from.2 ∙ ap (λ (l : List ℕ). put file l from.0) (sym has)) (λ _. has)

  -- a sync, whatever it answered
  pub so_sync : {T E : Type 0} (A : List ℕ → Type 0) (mid new : D) (B : List ℕ → Type 0) (r : Result T E) → So meaning start mid file A B → Elapses meaning mid new
      → OnOk r ((image : Files) → Now meaning new image ↔ ((was : Files) × Now meaning mid was × (image ≡ put file (content file (meaning.files mid)) was)))
      → ((image : Files) → OnErr r (Now meaning new image → Now meaning mid image))
      → B (content file (meaning.files mid)) → ((bytes : List ℕ) → B bytes → A bytes) → So meaning start new file A B
  so_sync A mid new B (Err e) so time durable crash here f = so_call A mid new B B so time (λ image is. so.images image (crash image is)) f
  so_sync A mid new B (Ok x) so time durable crash here f =
      let bytes = content file (meaning.files mid) in
      so_call A mid new B B so time (λ image is. only_weaker meaning start file (λ (c : List ℕ). c ≡ bytes) B (λ c same. subst B (sym same) here) image (synced mid new B so.images durable image is)) f

module _ {D : Type 0} (meaning : Meaning D) (start mid : D) (file : File) where
  -- what changes the file alone, after what changed it alone
  pub only_through : (B Q P : List ℕ → Type 0) → ((image : Files) → Now meaning mid image → OnlyFile meaning start file B image) → ((bytes : List ℕ) → Q bytes → P bytes) → (image : Files) → OnlyFile meaning mid file Q image → OnlyFile meaning start file P image
  only_through B Q P before f image is = again meaning start file mid B P before image is.was is.before is.rest (λ _. f (content file image) is.holds)

  -- one run after another
  pub then_only : (new : D) (B Q P : List ℕ → Type 0) → Leaves meaning start mid (OnlyFile meaning start file P) → ((image : Files) → Now meaning mid image → OnlyFile meaning start file B image) → Leaves meaning mid new (OnlyFile meaning mid file Q) → ((bytes : List ℕ) → Q bytes → P bytes)
      → Leaves meaning start new (OnlyFile meaning start file P)
  then_only new B Q P so_far before leaves f = then_leaves meaning start mid new (OnlyFile meaning start file P) so_far (weaker meaning mid new (OnlyFile meaning mid file Q) (OnlyFile meaning start file P) leaves (only_through B Q P before f))
