-- What parts of an outcome a call leaves, by how it ended.
use Rattle.std.proofs.Common.{◌≡◌, ◌⊎◌, ℕ, List, [], ◌∷◌, ◌++◌, Option, Some, None, refl, sym, ap, ◌∙◌, inl, inr, arith, length, length-append, take, drop, append_assoc}
use Rattle.std.specs.Io.KnownBytes.{append_known}
use Rattle.std.proofs.Math.Seq.{take-length}
use Rattle.std.proofs.lemmas.List.{append-nil, take-append-drop}
use Rattle.guest_kernel.specs.declared.channel.Channel.{Channel}
use Rattle.guest_kernel.specs.declared.channel.Channel.TheVariants as channel
use Rattle.host_io.specs.Files.{FilesState, stored_in, with_path}
use Rattle.host_io.specs.Sink.{SinkState, appended}
use Rattle.aprof_top.specs.Delivery.{DoesAll, FailsAtStats, FailsAtStore, FailsOnErr, FailsOnOut, FailsWithin, StopsShort}
use Rattle.aprof_top.specs.LastText.{IsPut}
use Rattle.aprof_top.specs.Outcome.{Outcome, Write, err_of, out_of, put_on}
use Rattle.aprof_top.specs.Outside.{Outside, outside, with_stores}
use Rattle.aprof_top.specs.Standing.{GainedPath, GotFirst, GotFirstThen, GotOutput, LeavesPart, LeavesText}
use Rattle.aprof_top.proofs.Handed.{first_of, first_put, first_put-more}
use Rattle.aprof_top.proofs.Sinks.{done-contents}

-- ---- what a sink gains
pub gains_more : (known : Option (List ℕ)) (a b : List ℕ) → append_known (append_known known a) b ≡ append_known known (a ++ b)
gains_more None a b = refl
gains_more (Some bytes) a b = ap Some (append_assoc bytes a b)

gains_nothing : (known : Option (List ℕ)) → known ≡ append_known known []
gains_nothing None = refl
gains_nothing (Some bytes) = ap Some (sym (append-nil bytes))

-- a first part of some bytes is one of these and more
first_part : (count : ℕ) (xs ys : List ℕ) → take (length (take count xs)) (xs ++ ys) ≡ take count xs
first_part count xs ys =
    ap (take (length (take count xs))) (ap (λ bytes. bytes ++ ys) (sym (take-append-drop count xs)) ∙ append_assoc (take count xs) (drop count xs) ys)
    ∙ first_of (take count xs) (drop count xs ++ ys)

-- all of some bytes, and a first part of others
second_part : (count : ℕ) (xs ys : List ℕ) → take (length (xs ++ take count ys)) (xs ++ ys) ≡ xs ++ take count ys
second_part count xs ys =
    ap (take (length (xs ++ take count ys))) (ap (λ bytes. xs ++ bytes) (sym (take-append-drop count ys)) ∙ sym (append_assoc xs (take count ys) (drop count ys)))
    ∙ first_of (xs ++ take count ys) (drop count ys)

-- ---- the last text
-- a text that was put, or whose put failed
pub put_part : (text : List ℕ) (old new : SinkState) → IsPut text old new → GotFirst text old new
put_part text old new (inl same) = (length text, ap (λ (s : SinkState). s.bytes) same ∙ ap (append_known old.bytes) (sym (take-length text)))
put_part text old new (inr (some, fails)) = (fails.front, fails.gained)

pub no_text : (text : List ℕ) (old new : SinkState) → new ≡ old → GotFirst text old new
no_text text old new same = (0, ap (λ (s : SinkState). s.bytes) same ∙ gains_nothing old.bytes)

-- ---- failed paths
pub with_stores-paths : (stores : List (List ℕ × List ℕ)) (files : FilesState) → (with_stores stores files).failed_paths ≡ files.failed_paths
with_stores-paths [] files = refl
with_stores-paths (store ∷ stores) files = with_stores-paths stores (stored_in files store.0 store.1)

some_is : {a b : List (List ℕ)} → Some a ≡ Some b → a ≡ b
some_is e = cc e

-- no list gained a path where it is as it was
pub no_gain : (path : List ℕ) (old new : FilesState) → new.failed_paths ≡ old.failed_paths → GainedPath path old new → ⊥
no_gain path old new same gains =
    let e = ap length (some_is (sym gains.told ∙ sym same ∙ gains.gained)) in
    let l = length-append gains.earlier (path ∷ []) in
    omega (arith, e, l)

-- the path that a told list gained is the one that failed
pub gained_is : (path failed : List ℕ) (old new : FilesState) → new.failed_paths ≡ with_path failed old.failed_paths → GainedPath path old new → failed ≡ path
gained_is path failed old new fails gains =
    last_is gains.earlier (some_is (sym (ap (with_path failed) gains.told) ∙ sym fails ∙ gains.gained))
  where
    last_is : (earlier : List (List ℕ)) → earlier ++ failed ∷ [] ≡ earlier ++ path ∷ [] → failed ≡ path
    last_is [] e = cc e
    last_is (p ∷ earlier) e = last_is earlier (cc e)

-- ---- what a call leaves
module _ (before after : Outside) (mid : SinkState) where
  abbrev between : Outside
  between = outside after.files after.out mid

  -- a first part of bytes came to `err`, and then a first part of the text
  got_text : (bytes text : List ℕ) → GotFirst bytes before.err mid → GotFirst text mid after.err → GotFirstThen bytes text before.err after.err
  got_text bytes text part told = record {
    count = part.0;
    text_count = told.0;
    gained = told.1 ∙ ap (λ known. append_known known (take told.0 text)) part.1 ∙ gains_more before.err.bytes (take part.0 bytes) (take told.0 text);
  }

  -- nothing but the text came
  pub text_alone : (text : List ℕ) → GotFirst text mid after.err → after.out ≡ before.out → mid ≡ before.err → after.files.contents ≡ before.files.contents → LeavesText text before after
  text_alone text told out err contents = record {
    out = out;
    err = (told.0, told.1 ∙ ap (λ (s : SinkState). append_known s.bytes (take told.0 text)) err);
    files = contents;
  }

  module _ (outcome : Outcome) (text : List ℕ) (told : GotFirst text mid after.err) where
    -- all of the output came
    pub output_came : after.out ≡ appended before.out (out_of outcome) → (more : List ℕ) → mid.bytes ≡ append_known before.err.bytes ((err_of outcome) ++ more) → GotOutput outcome before after
    output_came out more err = record {
      out = ap (λ (s : SinkState). s.bytes) out;
      err = (
        more ++ take told.0 text,
        told.1 ∙ ap (λ known. append_known known (take told.0 text)) err ∙ gains_more before.err.bytes ((err_of outcome) ++ more) (take told.0 text)
            ∙ ap (append_known before.err.bytes) (append_assoc (err_of outcome) more (take told.0 text)),
      );
    }

    whole_out : after.out ≡ appended before.out (out_of outcome) → GotFirst (out_of outcome) before.out after.out
    whole_out out = (length (out_of outcome), ap (λ (s : SinkState). s.bytes) out ∙ ap (append_known before.out.bytes) (sym (take-length (out_of outcome))))

    -- a first part of the output on `err`
    part_of_err : (count : ℕ) → mid.bytes ≡ append_known before.err.bytes (take count (err_of outcome)) → GotFirstThen ((err_of outcome) ++ outcome.stats) text before.err after.err
    part_of_err count gained =
        got_text ((err_of outcome) ++ outcome.stats) text
        (length (take count (err_of outcome)), gained ∙ ap (append_known before.err.bytes) (sym (first_part count (err_of outcome) outcome.stats))) told

    -- all of it, and a first part of the statistics
    part_of_stats : (count : ℕ) → mid.bytes ≡ append_known before.err.bytes ((err_of outcome) ++ take count outcome.stats) → GotFirstThen ((err_of outcome) ++ outcome.stats) text before.err after.err
    part_of_stats count gained =
        got_text ((err_of outcome) ++ outcome.stats) text
        (length ((err_of outcome) ++ take count outcome.stats), gained ∙ ap (append_known before.err.bytes) (sym (second_part count (err_of outcome) outcome.stats))) told

    -- all of `err` is all of it with no statistics
    pub err_whole : mid ≡ appended before.err (err_of outcome) → mid.bytes ≡ append_known before.err.bytes ((err_of outcome) ++ [])
    err_whole err = ap (λ (s : SinkState). s.bytes) err ∙ ap (append_known before.err.bytes) (sym (append-nil (err_of outcome)))

    -- the first writes came to a sink
    abbrev some_put : (on : Channel) (old new : SinkState) (earlier later : List Write) → earlier ++ later ≡ outcome.writes → new ≡ appended old (put_on on earlier) → GotFirst (put_on on outcome.writes) old new
    some_put on old new earlier later are gained =
        (length (put_on on earlier), ap (λ (s : SinkState). s.bytes) gained ∙ ap (append_known old.bytes) (sym (first_put on outcome.writes earlier later are)))

    -- and then some of the next one
    abbrev some_and_more : (on : Channel) (bytes : List ℕ) (old new : SinkState) (earlier : List Write) (piece : List ℕ) (fails : FailsWithin piece (appended old (put_on on earlier)) new)
        → take (length (put_on on earlier ++ take fails.count piece)) bytes ≡ put_on on earlier ++ take fails.count piece → GotFirst bytes old new
    some_and_more on bytes old new earlier piece fails first = (
      length (put_on on earlier ++ take fails.count piece),
      fails.gained ∙ gains_more old.bytes (put_on on earlier) (take fails.count piece) ∙ ap (append_known old.bytes) (sym first),
    )

    pub part_at_store : FailsAtStore outcome before between → LeavesPart outcome text before after
    part_at_store fails = record {
      out = whole_out fails.output.out;
      err = part_of_stats 0 (err_whole fails.output.err);
      files = inr (record { count = fails.stored.count; store = fails.stored.store; next = fails.stored.next; left = fails.stored.failed.left; contents = fails.stored.failed.contents });
      output_first = inl (output_came fails.output.out [] (err_whole fails.output.err));
    }

    -- nothing was stored
    unstored : after.files ≡ before.files → after.files.contents ≡ before.files.contents
    unstored same = ap (λ (f : FilesState). f.contents) same

    pub part_on_out : FailsOnOut outcome before between → LeavesPart outcome text before after
    part_on_out fails = record {
      out = some_and_more channel.Out (out_of outcome) before.out after.out fails.earlier fails.bytes fails.out (first_put-more channel.Out fails.out.count outcome.writes fails.earlier fails.later fails.bytes refl fails.are);
      err = part_of_err (length (put_on channel.Err fails.earlier)) (some_put channel.Err before.err mid fails.earlier ((channel.Out, fails.bytes) ∷ fails.later) fails.are fails.err).1;
      files = inl (0, unstored fails.files);
      output_first = inr (unstored fails.files);
    }

    pub part_on_err : FailsOnErr outcome before between → LeavesPart outcome text before after
    part_on_err fails =
        let came = some_and_more channel.Err (err_of outcome) before.err mid fails.earlier fails.bytes fails.err (first_put-more channel.Err fails.err.count outcome.writes fails.earlier fails.later fails.bytes refl fails.are) in
        record {
          out = some_put channel.Out before.out after.out fails.earlier ((channel.Err, fails.bytes) ∷ fails.later) fails.are fails.out;
          err = part_of_err came.0 came.1;
          files = inl (0, unstored fails.files);
          output_first = inr (unstored fails.files);
        }

    -- some of the statistics came
    pub stats_came : (fails : FailsAtStats outcome before between) → mid.bytes ≡ append_known before.err.bytes ((err_of outcome) ++ take fails.err.count outcome.stats)
    stats_came fails = fails.err.gained ∙ gains_more before.err.bytes (err_of outcome) (take fails.err.count outcome.stats)

    pub part_at_stats : FailsAtStats outcome before between → LeavesPart outcome text before after
    part_at_stats fails = record {
      out = whole_out fails.out;
      err = part_of_stats fails.err.count (stats_came fails);
      files = inl (length outcome.stores, ap (λ (f : FilesState). f.contents) fails.files ∙ ap (λ stores. (with_stores stores before.files).contents) (sym (take-length outcome.stores)));
      output_first = inl (output_came fails.out (take fails.err.count outcome.stats) (stats_came fails));
    }

    pub part_done : DoesAll outcome before between → LeavesPart outcome text before after
    part_done does = record {
      out = whole_out does.out;
      err = part_of_stats (length outcome.stats) (all_came ∙ ap (λ bytes. append_known before.err.bytes ((err_of outcome) ++ bytes)) (sym (take-length outcome.stats)));
      files = inl (length outcome.stores, done-contents outcome before between does ∙ ap (λ stores. (with_stores stores before.files).contents) (sym (take-length outcome.stores)));
      output_first = inl (output_came does.out outcome.stats all_came);
    }
      where
        all_came : mid.bytes ≡ append_known before.err.bytes ((err_of outcome) ++ outcome.stats)
        all_came = ap (λ (s : SinkState). s.bytes) does.err ∙ gains_more before.err.bytes (err_of outcome) outcome.stats

    pub part_short : StopsShort outcome before between → LeavesPart outcome text before after
    part_short short = record {
      out = some_put channel.Out before.out after.out short.earlier short.later short.are short.out;
      err = part_of_err (length (put_on channel.Err short.earlier)) (some_put channel.Err before.err mid short.earlier short.later short.are short.err).1;
      files = inl (short.count, ap (λ (f : FilesState). f.contents) short.files);
      output_first = first short.output_first;
    }
      where
        first : (short.later ≡ []) ⊎ (short.count ≡ 0) → GotOutput outcome before after ⊎ (after.files.contents ≡ before.files.contents)
        first (inl none) =
            let all : short.earlier ≡ outcome.writes = sym (append-nil short.earlier) ∙ ap (λ later. short.earlier ++ later) (sym none) ∙ short.are in
            inl (output_came (short.out ∙ ap (λ writes. appended before.out (put_on channel.Out writes)) all) [] (err_whole (short.err ∙ ap (λ writes. appended before.err (put_on channel.Err writes)) all)))
        first (inr none) = inr (ap (λ (f : FilesState). f.contents) (short.files ∙ ap (λ count. with_stores (take count outcome.stores) before.files) none))
