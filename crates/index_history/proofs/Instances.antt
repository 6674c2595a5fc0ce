-- The statements of `specs/` at small cases: each is taken as a hypothesis, and antt computes what it asks for. This file imports no proof of a
-- statement: one that holds of nothing, or says nothing, is refused here. Where a conclusion is a record, samples that it must rule out
-- stand beside it.
use Prim.Native.Nat.{ℕ}
use mathlib.Core.Path.{◌≡◌, refl, sym, ap, ◌∙◌}
use mathlib.Core.Bool.{Bool, true, false, false≢true, ◌||◌}
use mathlib.Core.List.Memᴰ
use mathlib.Core.List.{List, [], ◌∷◌, ◌++◌}
use mathlib.Core.Option.{some}
use native.Mathlib.Omega.{arith}
use lib.Dec.{lit≤}
use lib.ListN.{length, replicate}
use Rattle.stores.specs.Written.{at_front}
use Rattle.stores.proofs.Tests.{by_test}
use Rattle.replies.specs.declared.Refusal.TheVariants.{CutOff}
use Rattle.std.specs.Prelude.{Ok, Err}
use Rattle.replies.specs.declared.Reply.TheVariants.{Done, Value}
use Rattle.replies.specs.declared.Answer.{Answer}
use Rattle.replies.specs.Replies.{Said, done, is_refusal, says_damage}
use Rattle.index_rules.specs.declared.Call.{Call}
use Rattle.index_rules.specs.declared.Call.TheVariants.{Format, Get, Put, Remove, Merge, Mend, List as ListCall, ListBlock}
use Rattle.index_rules.specs.Layout.{depth}
use Rattle.index_rules.specs.Merge.{right_of}
use Rattle.index_rules.specs.Mend.{mending}
use Rattle.index_rules.specs.Listing.{Record, records, words_of}
use Rattle.index_rules.specs.Step.{step, outcome_of, Performed}
use Rattle.index_laws.specs.JoinedListing.{Gathered}
use Rattle.index_rules.proofs.Table.{computed}
use Rattle.runs.specs.Map.{Map, empty, updated, fed, map_says}
use Rattle.runs.specs.Run.{Point, start, may_follow, is_recovery, recovery_after, claimed, next, finish, Linked, valid_run, EachCall}
use Rattle.runs.specs.BeforeMending.{mends_behind, mends_to_completion}
use Rattle.runs.specs.Check.{agrees, mends_unseen}
use Rattle.runs.proofs.Runs.{all_linked}
use Rattle.runs.proofs.Checked.{claim_checked, mends_checked}
use Rattle.index_history.specs.History.{index, Formatted, HistoryRule, BeforeMending, CoveredPoint, Link, GetPerformed, performed, FormatPerformed, PerformedHistoryRule, PerformedBeforeMending}
use Rattle.index_history.specs.Listing.{occurrences, ListsMap}
use Rattle.index_history.specs.Further.{NeverDamage, MendSuffices, waits_for_mend, EarlyCalls, ListIsMap, PartsAreMap, FreeIn, MergeFrees}
use Rattle.index_history.proofs.Samples.{formatted, requests, sixteen, long_run, lookup, keys}
use Rattle.index_history.proofs.EarlyLookups.{behind, cut_split}

-- ---- Runs, and the points behind them

pub formatted_so : Formatted formatted
unfolding computed
formatted_so = record { before = replicate 520 7; D = 2; S = 4; allowance = 67; reply = refl; left = refl }

-- The calls are a valid run of the index.
abbrev Valid : List Call → Type 0
Valid calls = valid_run index (start formatted) (requests calls) ≡ true

covered : (calls : List Call) → Valid calls → CoveredPoint (behind calls)
covered calls valid =
    record {
      first = formatted;
      started = formatted_so;
      calls = requests calls;
      linked = all_linked index (λ a r. Prim.tt) (start formatted) (requests calls);
      valid = valid;
      comes = refl;
    }

long_run_valid : Valid long_run
unfolding computed empty updated fed may_follow is_recovery recovery_after next valid_run
long_run_valid = refl

-- ---- The history rule, and lookups before mending

pub long_run_checked : HistoryRule → agrees index lookup keys (start formatted) (requests long_run) ≡ true
long_run_checked rule =
    claim_checked index lookup (λ a key. refl) keys (start formatted) (requests long_run)
    (rule formatted formatted_so (requests long_run) long_run_valid)

cut_split_valid : Valid cut_split.calls
unfolding computed empty updated fed may_follow is_recovery recovery_after next valid_run
cut_split_valid = refl

cut_split_mended : mends_to_completion index (behind cut_split.calls) (requests cut_split.mends) ≡ true
unfolding computed empty updated fed is_recovery recovery_after next finish mends_behind
cut_split_mended = refl

pub cut_split_checked : BeforeMending → mends_unseen index lookup keys (behind cut_split.calls) (requests cut_split.mends) ≡ true
cut_split_checked before =
    mends_checked index Formatted lookup (λ a key. refl) before keys (behind cut_split.calls) (covered cut_split.calls cut_split_valid)
    (requests cut_split.mends)
    (all_linked index (λ a r. Prim.tt) (behind cut_split.calls) (requests cut_split.mends))
    cut_split_mended

-- ---- What else is shown of every run

-- The put of 7 is cut between value and key, and a get follows.
abbrev cut_put : List Call
cut_put = Put 7 70 1 ∷ Get 7 ∷ []

cut_put_valid : Valid cut_put
unfolding computed empty updated fed may_follow is_recovery recovery_after next valid_run
cut_put_valid = refl

pub no_damage_said : NeverDamage → says_damage (step formatted (replicate 64 0) (Put 7 70 1)).outcome.reply ≡ false
unfolding EachCall
no_damage_said never = (never formatted formatted_so (requests cut_put) cut_put_valid).0

-- Behind the cut split the directory has two entries, of which a mend changes one.
cut_split_deep : depth (behind cut_split.calls).array ≡ 1
unfolding computed next finish
cut_split_deep = refl

pub cut_split_mends : MendSuffices → (step (behind cut_split.calls).array [] (Mend 2)).outcome.reply ≡ done []
cut_split_mends suffices = suffices (behind cut_split.calls) (covered cut_split.calls cut_split_valid) 2 [] (rw cut_split_deep (lit≤ tt))

-- ---- Calls made before the mend

-- Format, get, put, remove, merge, mend, list and list of one block: which of them wait.
pub waiting : ◌≡◌ {A = List Bool}
    (waits_for_mend (Format 1 4 0) ∷ waits_for_mend (Get 7) ∷ waits_for_mend (Put 7 70 0) ∷ waits_for_mend (Remove 7 0) ∷ waits_for_mend (Merge 7 0)
    ∷ waits_for_mend (Mend 0) ∷ waits_for_mend ListCall ∷ waits_for_mend (ListBlock 0) ∷ [])
    (false ∷ false ∷ true ∷ true ∷ true ∷ false ∷ true ∷ true ∷ [])
unfolding may_follow
waiting = refl

-- A call says 2 or 4 at a point.
abbrev waits_there : Point → Call → Bool
waits_there p c = is_refusal 2 (step p.array [] c).outcome.reply || is_refusal 4 (step p.array [] c).outcome.reply

waits_put : (value allowance : ℕ) → waits_for_mend (Put 23 value allowance) ≡ true
unfolding may_follow
waits_put value allowance = refl

-- Behind the cut put another one is made: it is cut off.
does_not_wait : waits_there (behind cut_put) (Put 23 5 0) ≡ false
unfolding computed next finish
does_not_wait = refl

pub nothing_to_mend : EarlyCalls → mending (behind cut_put).array ≡ []
nothing_to_mend early = early (behind cut_put) (covered cut_put cut_put_valid) [] (Put 23 5 0) (waits_put 5 0) does_not_wait

-- Behind the cut split, where a mend has a store to make, every put of 23 says so.
some_to_mend : length (mending (behind cut_split.calls).array) ≡ 1
unfolding computed next finish
some_to_mend = refl

pub all_wait : EarlyCalls → (value allowance : ℕ) → waits_there (behind cut_split.calls) (Put 23 value allowance) ≡ true
all_wait early value allowance =
    by_test (waits_there (behind cut_split.calls) (Put 23 value allowance))
    (λ waits. waits)
    (λ on.
    let m : mending (behind cut_split.calls).array ≡ [] = early (behind cut_split.calls) (covered cut_split.calls cut_split_valid) []
    (Put 23 value allowance) (waits_put value allowance) on in
    absurd (omega (arith, sym some_to_mend ∙ ap length m)))

-- ---- Lists and merges

-- Two pages.
abbrev two_pages : List Call
two_pages = Put 7 70 2 ∷ Put 23 230 2 ∷ []

two_pages_valid : Valid two_pages
unfolding computed empty updated fed may_follow is_recovery recovery_after next valid_run
two_pages_valid = refl

two_pages_calm : (behind two_pages).needs_recovery ≡ false
unfolding computed is_recovery recovery_after next finish
two_pages_calm = refl

-- What a list of them leaves in four words.
abbrev four_words : List ℕ
four_words = (step (behind two_pages).array (replicate 4 0) ListCall).list

two_pages_listed : Performed ListCall (behind two_pages).array (replicate 4 0) (record { reply = Ok (Value 2); stores = 0 }) (behind two_pages).array four_words
unfolding computed next finish
two_pages_listed = record { answered = record { reply = refl; stores = refl; words = refl }; list = refl }

pub list_has_map : ListIsMap
    → (four_words ≡ at_front (words_of (records (behind two_pages).array)) (replicate 4 0))
    × ListsMap (behind two_pages).map (records (behind two_pages).array)
    × (2 ≡ length (records (behind two_pages).array))
list_has_map is-map =
    is-map (behind two_pages) (covered two_pages two_pages_valid) two_pages_calm (replicate 4 0) (record { reply = Ok (Value 2); stores = 0 })
    (behind two_pages).array four_words 2 two_pages_listed refl

pub parts_have_map : PartsAreMap
    → Gathered (behind two_pages).array (replicate 128 0) × ListsMap (behind two_pages).map (records (behind two_pages).array)
parts_have_map are-map = are-map (behind two_pages) (covered two_pages two_pages_valid) two_pages_calm (replicate 128 0) (lit≤ tt)

-- The map in which 7 alone has a value, and records that are not its: none, one with another value, one twice, one besides.
abbrev page : (key value : ℕ) → Record
page key value = record { key = key; value = value }

abbrev seven : Map
seven = updated empty 7 (some 70)

pub none_listed : ListsMap seven [] → ⊥
unfolding empty updated occurrences
none_listed l = omega (arith, l.once 7 70 refl)

pub other_value_holds : ListsMap seven (page 7 71 ∷ []) → ⊥
unfolding empty updated
other_value_holds l = let e : ◌≡◌ {A = ℕ} 70 71 = cc (l.right (page 7 71) (Memᴰ.head refl)) in omega arith

pub listed_twice : ListsMap seven (page 7 70 ∷ page 7 70 ∷ []) → ⊥
unfolding empty updated occurrences
listed_twice l = omega (arith, l.once 7 70 refl)

pub listed_besides : ListsMap seven (page 7 70 ∷ page 8 80 ∷ []) → ⊥
unfolding empty updated occurrences
listed_besides l = omega (arith, l.no_other 8 refl)

-- The split of state e, and 263 removed: a merge joins the two blocks again.
abbrev split_again : List Call
split_again = sixteen ++ (Put 263 5 79 ∷ Remove 263 1 ∷ [])

split_again_valid : Valid split_again
unfolding computed empty updated fed may_follow is_recovery recovery_after next valid_run
split_again_valid = refl

-- The array behind a merge of 7 there, with as many stores as it makes.
abbrev merged : List ℕ
merged = (step (behind split_again).array [] (Merge 7 18)).outcome.after

merge_done : (step (behind split_again).array [] (Merge 7 18)).outcome.reply ≡ done []
unfolding computed next finish
merge_done = refl

right_is : right_of (behind split_again).array 7 ≡ 1
unfolding computed next finish
right_is = refl

pub one_is_free : MergeFrees → FreeIn 1 merged
one_is_free frees = rw right_is at (frees (behind split_again) (covered split_again split_again_valid) 7 18 [] merge_done)

-- Not free: segment 1 before the merge, which an entry names, and segment 4 of four.
pub named_not_free : FreeIn 1 (behind split_again).array → ⊥
unfolding computed next finish
named_not_free f = false≢true (sym f.unnamed)

pub behind_the_last : FreeIn 4 formatted → ⊥
unfolding computed
behind_the_last f = omega (arith, f.below)

-- ---- Performed calls

format_performed : FormatPerformed formatted
unfolding computed
format_performed =
    record {
      D = 2;
      S = 4;
      allowance = 67;
      before = replicate 520 7;
      list = [];
      answer = record { reply = Ok Done; stores = 67 };
      list_after = [];
      performed = record { answered = record { reply = refl; stores = refl; words = refl }; list = refl };
      says_done = refl;
    }

-- A link that carries what the call has left, and answers so.
abbrev link_of : List ℕ → Call → Answer → Link
link_of a call answer =
    record { call = call; list = []; answer = answer; after = (outcome_of a call).after; list_after = (step a [] call).list }

-- A done put of 7; and one of 23 that is cut between value and key, with the mend behind it.
abbrev done_put : Link
done_put = link_of formatted (Put 7 70 2) (record { reply = Ok Done; stores = 2 })

abbrev cut_link : Link
cut_link = link_of done_put.after (Put 23 230 1) (record { reply = Err CutOff; stores = 1 })

abbrev mend_link : Link
mend_link = link_of cut_link.after (Mend 1) (record { reply = Ok Done; stores = 0 })

-- The point behind the two puts.
abbrev behind_puts : Point
behind_puts = finish performed (start formatted) (done_put ∷ cut_link ∷ [])

puts_linked : Linked performed (start formatted) (done_put ∷ cut_link ∷ [])
unfolding computed Linked next
puts_linked = (
  record { answered = record { reply = refl; stores = refl; words = refl }; list = refl },
  (record { answered = record { reply = refl; stores = refl; words = refl }; list = refl }, Prim.tt),
)

puts_valid : valid_run performed (start formatted) (done_put ∷ cut_link ∷ []) ≡ true
unfolding empty fed may_follow is_recovery recovery_after next valid_run
puts_valid = refl

-- A get of 7 finds its page there.
page_got : GetPerformed behind_puts.array 7 (done (70 ∷ []))
unfolding computed next finish
page_got =
    record {
      list = [];
      answer = record { reply = Ok (Value 70); stores = 0 };
      after = behind_puts.array;
      list_after = [];
      performed = record { answered = record { reply = refl; stores = refl; words = refl }; list = refl };
      said_so = refl;
    }

seven_claimed : claimed 7 ≡ true
unfolding claimed
seven_claimed = refl

pub page_agrees : PerformedHistoryRule → done (70 ∷ []) ≡ map_says (behind_puts.map 7)
page_agrees rule =
    (rule formatted format_performed (done_put ∷ cut_link ∷ []) puts_linked puts_valid).1 7 seven_claimed (done (70 ∷ [])) page_got

mend_linked : Linked performed behind_puts (mend_link ∷ [])
unfolding computed Linked next finish
mend_linked = (record { answered = record { reply = refl; stores = refl; words = refl }; list = refl }, Prim.tt)

mend_completes : mends_to_completion performed behind_puts (mend_link ∷ []) ≡ true
unfolding mends_behind
mend_completes = refl

pub page_stays : PerformedBeforeMending → (after : Said) → GetPerformed (finish performed behind_puts (mend_link ∷ [])).array 7 after → done (70 ∷ []) ≡ after
page_stays before after got =
    before behind_puts
    (record {
      first = formatted;
      started = format_performed;
      calls = done_put ∷ cut_link ∷ [];
      linked = puts_linked;
      valid = puts_valid;
      comes = refl;
    })
    (mend_link ∷ []) mend_linked mend_completes 7 seven_claimed (done (70 ∷ [])) after page_got got
