-- What the claims say of a run and of mends, the computed tests find; and what the tests find of the keys that are asked for, the claims say.
use Prim.Native.Nat.{ℕ}
use mathlib.Core.Option.{Option, none, some}
use mathlib.Core.Path.{◌≡◌, refl}
use mathlib.Core.Bool.{Bool, true, not}
use mathlib.Core.List.Memᴰ
use mathlib.Core.List.{List, [], ◌∷◌, Memᴰ}
use mathlib.Core.Logic.{⊎_elim}
use borrow.Author.Tests.{eq-eqb}
use Rattle.stores.proofs.Tests.{by_test, and_left, and_right, and_true, or_right}
use Rattle.stores.specs.Lists.{numbers_same}
use Rattle.replies.specs.Replies.{Said, done, listed, absent, refused, following_same, said_same}
use Rattle.replies.proofs.Same.{same_said}
use Rattle.runs.specs.Map.{Map, View, formats, gets, puts, removes, mends, looks, keeps, map_says}
use Rattle.runs.specs.Run.{Machine, Point, claimed, next, finish, Linked, Reached, EachCall, GetAgrees, CallAgrees, AgreesWithMap}
use Rattle.runs.specs.BeforeMending.{mends_to_completion, LookupsBeforeMending}
use Rattle.runs.specs.Check.{same_of, get_agrees, calls_agree, gets_agree, agrees, same_answers, mends_unseen}

numbers_same_holds : (xs : List ℕ) → numbers_same xs xs ≡ true
unfolding numbers_same
numbers_same_holds [] = refl
numbers_same_holds (x ∷ xs) = and_true (eq-eqb x x refl) (numbers_same_holds xs)

following_same_holds : (f : Option ℕ) → following_same f f ≡ true
unfolding following_same
following_same_holds (some i) = eq-eqb i i refl
following_same_holds none = refl

said_same_holds : (s : Said) → said_same s s ≡ true
unfolding said_same
said_same_holds (done xs) = numbers_same_holds xs
said_same_holds (listed n f) = and_true (eq-eqb n n refl) (following_same_holds f)
said_same_holds absent = refl
said_same_holds (refused n) = eq-eqb n n refl

-- Where both say the same of a claimed key, the test of it passes.
same_checked : (key : ℕ) (s t : Said) → (claimed key ≡ true → s ≡ t) → same_of key s t ≡ true
same_checked key s t h = by_test (claimed key) (λ c. or_right (not (claimed key)) (rw (h c) (said_same_holds t))) (λ c. rw c)

-- A get of a claimed key that says what the map says passes its test.
get_checked : (key : ℕ) (said : Said) (m : Map) → (claimed key ≡ true → said ≡ map_says (m key)) → get_agrees (gets key) said m ≡ true
unfolding get_agrees
get_checked key said m h = same_checked key said (map_says (m key)) h

call_checked : (view : View) (said : Said) (m : Map) → GetAgrees view said m → get_agrees view said m ≡ true
unfolding get_agrees
call_checked formats said m h = refl
call_checked (gets key) said m h = get_checked key said m h
call_checked (puts key value) said m h = refl
call_checked (removes key) said m h = refl
call_checked mends said m h = refl
call_checked looks said m h = refl
call_checked keeps said m h = refl

calls_checked : (M : Machine) (p : Point) (calls : List M.Call) → EachCall M (CallAgrees M) p calls → calls_agree M p calls ≡ true
unfolding calls_agree EachCall
calls_checked M p [] h = refl
calls_checked M p (c ∷ cs) h = and_true (call_checked _ _ p.map h.0) (calls_checked M (next M p c) cs h.1)

ends_checked : (lookup : List ℕ → ℕ → Said) (p : Point) (keys : List ℕ)
    → ((key : ℕ) → claimed key ≡ true → lookup p.array key ≡ map_says (p.map key)) → gets_agree lookup p keys ≡ true
unfolding gets_agree
ends_checked lookup p [] h = refl
ends_checked lookup p (key ∷ keys) h = and_true (get_checked key (lookup p.array key) p.map (h key)) (ends_checked lookup p keys h)

-- For a lookup that says what a get of the store says, and for any keys.
pub claim_checked : (M : Machine) (lookup : List ℕ → ℕ → Said) → ((a : List ℕ) (key : ℕ) → M.Says a key (lookup a key))
    → (keys : List ℕ) (p : Point) (calls : List M.Call) → AgreesWithMap M p calls → agrees M lookup keys p calls ≡ true
unfolding agrees
claim_checked M lookup so keys p calls h =
    and_true (calls_checked M p calls h.0)
    (ends_checked lookup (finish M p calls) keys
    (λ key k. h.1 key k (lookup (finish M p calls).array key) (so (finish M p calls).array key)))

answers_checked : (lookup : List ℕ → ℕ → Said) (a b keys : List ℕ) → ((key : ℕ) → claimed key ≡ true → lookup a key ≡ lookup b key)
    → same_answers lookup a b keys ≡ true
unfolding same_answers
answers_checked lookup a b [] h = refl
answers_checked lookup a b (key ∷ keys) h =
    and_true (same_checked key (lookup a key) (lookup b key) (h key)) (answers_checked lookup a b keys h)

-- The same of mending to completion.
pub mends_checked : (M : Machine) (Start : List ℕ → Type 0) (lookup : List ℕ → ℕ → Said)
    → ((a : List ℕ) (key : ℕ) → M.Says a key (lookup a key)) → LookupsBeforeMending M Start
    → (keys : List ℕ) (p : Point) → Reached M Start p → (calls : List M.Call) → Linked M p calls → mends_to_completion M p calls ≡ true
    → mends_unseen M lookup keys p calls ≡ true
unfolding mends_unseen
mends_checked M Start lookup so claim keys p reached calls linked e =
    let b : List ℕ = (finish M p calls).array in
    and_true e
    (answers_checked lookup p.array b keys
    (λ key k. claim p reached calls linked e key k (lookup p.array key) (lookup b key) (so p.array key) (so b key)))

-- ---- What the tests find

-- The test of a claimed key passes only where both say the same.
same_found : (key : ℕ) (s t : Said) → same_of key s t ≡ true → claimed key ≡ true → s ≡ t
same_found key s t e c = same_said s t (rw c at e)

call_found : (view : View) (said : Said) (m : Map) → get_agrees view said m ≡ true → GetAgrees view said m
unfolding get_agrees
call_found formats said m e = Prim.tt
call_found (gets key) said m e = same_found key said (map_says (m key)) e
call_found (puts key value) said m e = Prim.tt
call_found (removes key) said m e = Prim.tt
call_found mends said m e = Prim.tt
call_found looks said m e = Prim.tt
call_found keeps said m e = Prim.tt

pub calls_found : (M : Machine) (p : Point) (calls : List M.Call) → calls_agree M p calls ≡ true → EachCall M (CallAgrees M) p calls
unfolding calls_agree EachCall
calls_found M p [] e = Prim.tt
calls_found M p (c ∷ cs) e =
    let here : Bool = get_agrees (M.view c) (M.step p.array c).reply p.map in
    let later : Bool = calls_agree M (next M p c) cs in
    (call_found (M.view c) (M.step p.array c).reply p.map (and_left here later e), calls_found M (next M p c) cs (and_right here later e))

pub gets_found : (lookup : List ℕ → ℕ → Said) (p : Point) (keys : List ℕ) → gets_agree lookup p keys ≡ true
    → (key : ℕ) → Memᴰ key keys → claimed key ≡ true → lookup p.array key ≡ map_says (p.map key)
unfolding get_agrees gets_agree
gets_found lookup p [] e key m c = absurd (Memᴰ.not-nil m)
gets_found lookup p (k ∷ keys) e key m c =
    let here : Bool = same_of k (lookup p.array k) (map_says (p.map k)) in
    let later : Bool = gets_agree lookup p keys in
    ⊎_elim
    (λ (q : key ≡ k). rw q (same_found k (lookup p.array k) (map_says (p.map k)) (and_left here later e) (rw q at c)))
    (λ (q : Memᴰ key keys). gets_found lookup p keys (and_right here later e) key q c)
    (Memᴰ.cases_cons m)

pub answers_found : (lookup : List ℕ → ℕ → Said) (a b : List ℕ) (keys : List ℕ) → same_answers lookup a b keys ≡ true
    → (key : ℕ) → Memᴰ key keys → claimed key ≡ true → lookup a key ≡ lookup b key
unfolding same_answers
answers_found lookup a b [] e key m c = absurd (Memᴰ.not-nil m)
answers_found lookup a b (k ∷ keys) e key m c =
    let here : Bool = same_of k (lookup a k) (lookup b k) in
    let later : Bool = same_answers lookup a b keys in
    ⊎_elim
    (λ (q : key ≡ k). rw q (same_found k (lookup a k) (lookup b k) (and_left here later e) (rw q at c)))
    (λ (q : Memᴰ key keys). answers_found lookup a b keys (and_right here later e) key q c)
    (Memᴰ.cases_cons m)
