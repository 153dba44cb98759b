-- A tbsCertificate whose times are read last.
use Rattle.std.proofs.Common.{◌≡◌, ℕ, ℤ, Bool, true, false, List, length, refl, ap, ◌∙◌}
use Rattle.std.specs.Prelude.{◌==◌, Option, Some, None, if◌then◌else◌}
use Rattle.spf_io.specs.Option.{◌>>=◌}
use Rattle.spf_der.specs.Value.{tagged_at}
use Rattle.spf_der.specs.Time.{time_at, second_time_at}
use Rattle.spf_der.specs.Certificate.{after_issuer_at, after_public_key_at, after_unique_id_at}
use Rattle.spf_der.specs.Certificate.{extension_text_at, tbs_of, text_after_validity_at}
use Rattle.spf_der.specs.Certificate.{validity_at}

abbrev TimeAndRest : Type 0
TimeAndRest = ℤ × List ℕ

abbrev both_of : {A B : Type 0} → A → B → Option (A × B)
both_of x y = Some (x, y)

-- one step after another, and then the rest of them
bind_bind : {A B C : Type 0} (a : Option A) (f : A → Option B) (g : B → Option C)
    → (a >>= λ x. f x >>= g) ≡ ((a >>= f) >>= g)
bind_bind None f g = refl
bind_bind (Some x) f g = refl

-- two steps of which neither needs the other, in any order
swap : {A B : Type 0} (a : Option A) (b : Option B)
    → (a >>= λ x. b >>= λ y. both_of x y) ≡ (b >>= λ y. a >>= λ x. both_of x y)
swap None None = refl
swap None (Some y) = refl
swap (Some x) None = refl
swap (Some x) (Some y) = refl

ended : (b : Bool) (t : ℤ) (rest : List ℕ)
    → (if b then both_of t rest else None) ≡ ((if b then Some t else None) >>= λ e. both_of e rest)
ended true t rest = refl
ended false t rest = refl

second : (m : Option TimeAndRest) (rest : List ℕ)
    → (m >>= λ x. if length x.1 == 0 then both_of x.0 rest else None)
    ≡ ((m >>= λ x. if length x.1 == 0 then Some x.0 else None) >>= λ e. both_of e rest)
second None rest = refl
second (Some x) rest = ended (length x.1 == 0) x.0 rest

both : (m : Option TimeAndRest) (rest : List ℕ)
    → (m >>= λ start. time_at start.1
    >>= λ x. if length x.1 == 0 then both_of x.0 rest else None)
    ≡ ((m >>= λ start. time_at start.1 >>= λ x. if length x.1 == 0 then Some x.0 else None)
    >>= λ e. both_of e rest)
both None rest = refl
both (Some start) rest = second (time_at start.1) rest

-- the steps after the validity, one by one
after_ids : (z : Option (List ℕ)) (e : ℤ)
    → (z >>= λ x. extension_text_at x >>= λ text. both_of e text)
    ≡ ((z >>= λ x. extension_text_at x) >>= λ text. both_of e text)
after_ids z e = bind_bind z extension_text_at (λ text. both_of e text)

after_first_id : (y : Option (List ℕ)) (e : ℤ)
    → (y >>= λ x. after_unique_id_at 2 x >>= λ z. extension_text_at z >>= λ text. both_of e text)
    ≡ ((y >>= λ x. after_unique_id_at 2 x >>= λ z. extension_text_at z) >>= λ text. both_of e text)
after_first_id None e = refl
after_first_id (Some x) e = after_ids (after_unique_id_at 2 x) e

after_key : (k : Option (List ℕ)) (e : ℤ)
    → (k >>= λ x. after_unique_id_at 1 x >>= λ y. after_unique_id_at 2 y
    >>= λ z. extension_text_at z >>= λ text. both_of e text)
    ≡ ((k >>= λ x. after_unique_id_at 1 x >>= λ y. after_unique_id_at 2 y
    >>= λ z. extension_text_at z) >>= λ text. both_of e text)
after_key None e = refl
after_key (Some x) e = after_first_id (after_unique_id_at 1 x) e

after_subject : (s : Option (List ℕ × List ℕ)) (e : ℤ)
    → (s >>= λ key. after_public_key_at key.1 >>= λ x. after_unique_id_at 1 x
    >>= λ y. after_unique_id_at 2 y >>= λ z. extension_text_at z >>= λ text. both_of e text)
    ≡ ((s >>= λ key. after_public_key_at key.1 >>= λ x. after_unique_id_at 1 x
    >>= λ y. after_unique_id_at 2 y >>= λ z. extension_text_at z) >>= λ text. both_of e text)
after_subject None e = refl
after_subject (Some key) e = after_key (after_public_key_at key.1) e

-- an expiry, and then what follows the validity
with_expiry : (w : Option ℤ) (rest : List ℕ)
    → ((w >>= λ e. both_of e rest) >>= λ s. tagged_at 48 s.1
    >>= λ key. after_public_key_at key.1 >>= λ x. after_unique_id_at 1 x
    >>= λ y. after_unique_id_at 2 y >>= λ z. extension_text_at z >>= λ text. both_of s.0 text)
    ≡ (w >>= λ e. text_after_validity_at rest >>= λ text. both_of e text)
unfolding text_after_validity_at
with_expiry None rest = refl
with_expiry (Some e) rest = after_subject (tagged_at 48 rest) e

-- the same, with the times after what follows the validity
abbrev late : Option (List ℕ × List ℕ) → Option (ℤ × List ℕ)
late t =
    t >>= λ times. text_after_validity_at times.1 >>= λ text. second_time_at times.0
    >>= λ e. both_of e text

from_times : (t : Option (List ℕ × List ℕ))
    → ((t >>= λ times. time_at times.0 >>= λ start. time_at start.1
    >>= λ x. if length x.1 == 0 then both_of x.0 times.1 else None)
    >>= λ s. tagged_at 48 s.1 >>= λ key. after_public_key_at key.1
    >>= λ x. after_unique_id_at 1 x >>= λ y. after_unique_id_at 2 y
    >>= λ z. extension_text_at z >>= λ text. both_of s.0 text)
    ≡ late t
from_times None = refl
from_times (Some times) =
    ap (λ (v : Option TimeAndRest). v >>= λ s. tagged_at 48 s.1
    >>= λ key. after_public_key_at key.1 >>= λ x. after_unique_id_at 1 x
    >>= λ y. after_unique_id_at 2 y >>= λ z. extension_text_at z >>= λ text. both_of s.0 text)
    (both (time_at times.0) times.1)
    ∙ with_expiry (second_time_at times.0) times.1
    ∙ swap (second_time_at times.0) (text_after_validity_at times.1)

from_issuer : (v : Option (List ℕ))
    → (v >>= λ validity. validity_at validity >>= λ s. tagged_at 48 s.1
    >>= λ key. after_public_key_at key.1 >>= λ x. after_unique_id_at 1 x
    >>= λ y. after_unique_id_at 2 y >>= λ z. extension_text_at z >>= λ text. both_of s.0 text)
    ≡ (v >>= λ validity. late (tagged_at 48 validity))
unfolding validity_at
from_issuer None = refl
from_issuer (Some validity) = from_times (tagged_at 48 validity)

-- a tbsCertificate, with its times read last
pub tbs_late : (bytes : List ℕ)
    → tbs_of bytes ≡ (after_issuer_at bytes >>= λ validity. late (tagged_at 48 validity))
unfolding tbs_of
tbs_late bytes = from_issuer (after_issuer_at bytes)
