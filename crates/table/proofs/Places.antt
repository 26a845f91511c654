-- Where a number stands among the numbers of listed records.
use Prim.Native.Nat.{ℕ, ◌+◌, ◌≤◌, ◌<◌}
use mathlib.Core.List.{List, []}
use mathlib.Core.Bool.{Bool, true, not}
use mathlib.Core.Path.{◌≡◌, ap, sym, ◌∙◌}
use native.Mathlib.Omega.{arith}
use borrow.Author.Tests.{ltb-true, ltb-false, eq-eqb, ne_eqb, le-leb, lt-leb, lt-ltb, le-ltb}
use lib.ListN.{length, get_or, take}
use Rattle.std.specs.Prelude.{Option, Some, None, Result, Ok, Err, MatchResult, unwrap_or, IfSome, is_some}
use Rattle.std.specs.Result.{result_ok}
use Rattle.std.specs.Ordering.{nat_cmp}
use Rattle.std.specs.List.Sorted.{IsBinarySearchResult}
use Rattle.std.proofs.lemmas.List.{get_or-take, length-take-le}
use Rattle.std.proofs.lemmas.List.Sorted.{searched}
use lib.Dec.{leb, ltb, eqb}
use Rattle.rules.specs.declared.Form.TheVariants.{Table}
use Rattle.rules.specs.Numbers.{Bytes, lowest, some}
use Rattle.rules.specs.Blocks.{records, record_at}
use Rattle.rules.specs.Records.{number_of, place_of, listed, transactions, tasks, task_count}
use Rattle.rules.specs.Refusals.{accepted, records_verdict}
use Rattle.rules.proofs.Numbers.{either, lowest_le, lowest_ext, lowest-none, lowest_here}
use Rattle.rules.proofs.Table.Standing.{transaction_record, task_record_lem}
use Rattle.rules.proofs.Table.Order.{Rises}
use Rattle.rules.proofs.Table.Shape.{Shape, shape_of}
use Rattle.image.specs.First.{first}
use Rattle.table.specs.Numbers.{Rising, place_among, place_from, NumbersRead, Directory}

-- the first number that passes a test, or the end where none does, is the lowest
pub first_placed : (test : ℕ → Bool) (n : ℕ) (found : Option ℕ) → found ≡ first test n → unwrap_or found n ≡ lowest test n
first_placed test n found e =
    either (some test n)
    (λ t. rw (e, t))
    (λ t. rw (e, t) (omega (arith, ltb-false (lowest test n) n t, lowest_le test n)))

-- one test, the other way round
pub not_below : (a b : ℕ) → leb a b ≡ not (ltb b a)
not_below a b =
    either (ltb b a)
    (λ t. rw (t, lt-leb a b (ltb-true b a t)))
    (λ t. rw (t, le-leb a b (ltb-false b a t)))

-- a number that stands at a place above only lesser ones is found there
pub place_found : (numbers : List ℕ) (count x place : ℕ) → ((k : ℕ) → k < place → get_or numbers k 0 < x) → place < count → get_or numbers place 0 ≡ x
    → place_among numbers count x ≡ place
place_found numbers count x place below inside here =
    let test : ℕ → Bool = λ k. eqb (get_or numbers k 0) x in
    lowest_here test place count (lowest-none test place (λ k h. ne_eqb (get_or numbers k 0) x (λ e. omega (arith, below k h)))) (eq-eqb (get_or numbers place 0) x here) inside

-- a number between two neighbours is found nowhere
pub place_none : (numbers : List ℕ) (count x place : ℕ) → Rising numbers count → ((k : ℕ) → k < place → get_or numbers k 0 < x) → (place < count → x < get_or numbers place 0)
    → place_among numbers count x ≡ count
place_none numbers count x place rising below above =
    lowest-none (λ k. eqb (get_or numbers k 0) x) count
    (λ k h.
    ne_eqb (get_or numbers k 0) x
    (λ e.
    either (ltb k place)
    (λ t. absurd (omega (arith, below k (ltb-true k place t))))
    (λ t.
    let from = ltb-false k place t in
    let start = above (omega arith) in
    either (ltb place k)
    (λ u. absurd (omega (arith, rising place k (ltb-true place k u) h)))
    (λ u.
    let same : place ≡ k = omega (arith, ltb-false place k u) in
    absurd (omega (arith, rw same at start))))))

-- so a search by halving finds the place
pub searched_place : (numbers : List ℕ) (count x : ℕ) (r : Result ℕ ℕ) → count ≤ length numbers → Rising numbers count
    → IsBinarySearchResult (λ y. nat_cmp y x) (take count numbers) r → unwrap_or (result_ok r) count ≡ place_among numbers count x
searched_place numbers count x r room rising found = by r (searched (take count numbers) x r found not_falling)
  where
    long : length (take count numbers) ≡ count
    long = length-take-le count numbers room

    not_falling : (i j : ℕ) → i ≤ j → j < length (take count numbers) → get_or (take count numbers) i 0 ≤ get_or (take count numbers) j 0
    not_falling i j h l =
        either (ltb i j)
        (λ t. omega (arith, get_or-take count numbers i 0 (omega (arith, long)), get_or-take count numbers j 0 (omega (arith, long)), rising i j (ltb-true i j t) (omega (arith, long))))
        (λ t.
        let same : i ≡ j = omega (arith, ltb-false i j t) in
        omega (arith, ap (λ (n : ℕ). get_or (take count numbers) n 0) same))

    by : (r : Result ℕ ℕ)
        → MatchResult r (λ i. (i < length (take count numbers)) × (get_or (take count numbers) i 0 ≡ x))
        (λ i. (i ≤ length (take count numbers)) × ((k : ℕ) → k < i → get_or (take count numbers) k 0 < x) × ((k : ℕ) → i ≤ k → k < length (take count numbers) → x < get_or (take count numbers) k 0))
        → unwrap_or (result_ok r) count ≡ place_among numbers count x
    by (Ok i) (inside, here) =
        let below : i < count = omega (arith, long) in
        let found : get_or numbers i 0 ≡ x = omega (arith, get_or-take count numbers i 0 below) in
        sym (place_found numbers count x i (λ k h. omega (arith, rising k i h below)) below found)
    by (Err i) (inside, below, above) =
        sym (place_none numbers count x i rising
        (λ k h. omega (arith, below k h, long, get_or-take count numbers k 0 (omega (arith, long))))
        (λ h. omega (arith, above i (omega arith) (omega (arith, long)), get_or-take count numbers i 0 h)))

-- a place among the numbers is the place among the records
pub place_in : (l : List (List ℕ)) (numbers : List ℕ) (count : ℕ) → Directory l numbers count → (x : ℕ) → place_among numbers count x ≡ place_of l x
place_in l numbers count d x =
    lowest_ext (λ k. eqb (get_or numbers k 0) x) (λ k. eqb (number_of (get_or l k [])) x) count (λ k h. ap (λ (n : ℕ). eqb n x) (d.right k h))
    ∙ ap (lowest (λ k. eqb (number_of (get_or l k [])) x)) d.counted

-- and so is a place among records of the image that are those in turn
pub place_read : (l : List (List ℕ)) (image : List ℕ) (first count : ℕ) → count ≡ length l → ((k : ℕ) → k < count → record_at image (first + k) ≡ get_or l k [])
    → (x : ℕ) → place_from image first count x ≡ place_of l x
place_read l image first count counted same x =
    lowest_ext (λ k. eqb (number_of (record_at image (first + k))) x) (λ k. eqb (number_of (get_or l k [])) x) count (λ k h. ap (λ (r : List ℕ). eqb (number_of r) x) (same k h))
    ∙ ap (lowest (λ k. eqb (number_of (get_or l k [])) x)) counted

-- what is found of a number among listed records says whether it is listed
pub found_listed : (l : List (List ℕ)) (x count : ℕ) (found : Option ℕ) → unwrap_or found count ≡ place_of l x → count ≡ length l → IfSome found (λ place. place < count)
    → is_some found ≡ listed l x
found_listed l x count (Some place) here counted inside = sym (lt-ltb (place_of l x) (length l) (omega (arith, here, counted, inside)))
found_listed l x count None here counted inside = sym (le-ltb (place_of l x) (length l) (omega (arith, here, counted)))

-- a place other than the count is one of the list
pub place_within : (l : List (List ℕ)) (x place count : ℕ) → place ≡ place_of l x → count ≡ length l → (place ≡ count → ⊥) → place < length l
place_within l x place count here counted other =
    omega (arith, here, counted, other, lowest_le (λ k. eqb (number_of (get_or l k [])) x) (length l))

-- numbers read from records that are the listed ones in turn are their directory
pub directory_of : (l : List (List ℕ)) (image : List ℕ) (first count : ℕ) (numbers : List ℕ) → NumbersRead image first count numbers → count ≡ length l → count ≤ 64
    → ((k : ℕ) → k < count → record_at image (first + k) ≡ get_or l k []) → Rises number_of l → Directory l numbers count
directory_of l image first count numbers read counted few same rises =
    let number : (k : ℕ) → k < count → get_or numbers k 0 ≡ number_of (get_or l k []) = λ k h. read.right k h ∙ ap number_of (same k h) in
    record {
      counted = counted;
      room = omega (arith, read.size);
      right = number;
      rising = λ i j h k. omega (arith, number i (omega arith), number j k, rises i j h (omega arith));
    }

module _ (image : List ℕ) (bytes : Bytes image) (right : accepted (records_verdict Table (records image)) ≡ true) where
  pub shape : Shape (records image)
  shape = shape_of image bytes right

  -- the first records are the transactions
  pub transaction_is : (k : ℕ) → k < length (transactions (records image)) → record_at image k ≡ get_or (transactions (records image)) k []
  transaction_is = transaction_record image shape.split

  pub transactions_directory : (numbers : List ℕ) (count : ℕ) → NumbersRead image 0 count numbers → count ≡ length (transactions (records image))
      → Directory (transactions (records image)) numbers count
  transactions_directory numbers count read counted =
      directory_of (transactions (records image)) image 0 count numbers read counted (omega (arith, shape.few_transactions))
      (λ k h.
      let same : 0 + k ≡ k = omega arith in
      rw same (transaction_is k (omega arith)))
      shape.transactions_rise

  pub tasks_directory : (ids : List ℕ) (first count : ℕ) → NumbersRead image first count ids → first ≡ length (transactions (records image)) → count ≡ task_count (records image)
      → Directory (tasks (records image)) ids count
  tasks_directory ids first count read start counted =
      directory_of (tasks (records image)) image first count ids read counted (omega (arith, shape.few_tasks))
      (λ k h. rw start (task_record_lem image shape.split k (omega arith)))
      shape.tasks_rise
