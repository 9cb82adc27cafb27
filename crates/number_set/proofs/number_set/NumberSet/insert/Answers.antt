use Rattle.std.proofs.Common.{◌/◌, rules, true, set}
use Rattle.std.proofs.lemmas.List.{get_or_read}
use Rattle.number_set.proofs.Packing.{Holds, holds, held_within, set_holds, held_words, held_marks}
use Rattle.number_set.proofs.Combining.{set_within}
use Rattle.number_set.proofs.number_set.NumberSet.insert.Goals as goal

pub index-requires : goal.index-requires
index-requires c =
    let s = c.self.inside in
    let h : Holds s.size s.words.items c.args.self.now =
    holds s.size s.words.items c.args.self.now c.self.invariant.same c.self.view_is in
    let within = held_within s.size s.words.items c.args.self.now c.args.number h c.requires in
    search rules

pub index_mut-requires : goal.index_mut-requires
index_mut-requires c =
    let s = c.self.inside in
    let h : Holds s.size s.words.items c.args.self.now =
    holds s.size s.words.items c.args.self.now c.self.invariant.same c.self.view_is in
    let within = held_within s.size s.words.items c.args.self.now c.args.number h c.requires in
    search rules

pub invariant_of-self : goal.invariant_of-self
invariant_of-self c =
    let s = c.self.inside in
    let h : Holds s.size s.words.items c.args.self.now =
    holds s.size s.words.items c.args.self.now c.self.invariant.same c.self.view_is in
    let within = held_within s.size s.words.items c.args.self.now c.args.number h c.requires in
    record {
      same = held_words s.size _ (set c.args.self.now c.args.number true)
          (set_holds s.size s.words.items c.args.self.now c.args.number c.index.result.now h
          c.requires (get_or_read s.words.items _ _ within c.index.ensures 0));
      within = set_within s.first s.last (c.args.number / 64) _ c.window_of-first.result s.words.items
          within c.self.invariant.within c.window_of-first.ensures;
    }

pub returns : goal.returns
returns c =
    let s = c.self.inside in
    let h : Holds s.size s.words.items c.args.self.now =
    holds s.size s.words.items c.args.self.now c.self.invariant.same c.self.view_is in
    let within = held_within s.size s.words.items c.args.self.now c.args.number h c.requires in
    held_marks s.size _ (set c.args.self.now c.args.number true)
    (set_holds s.size s.words.items c.args.self.now c.args.number c.index.result.now h
    c.requires (get_or_read s.words.items _ _ within c.index.ensures 0))
