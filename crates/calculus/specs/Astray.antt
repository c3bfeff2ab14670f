-- Cases in which a reading that leads astray would print something else, computed from the rules.
use Rattle.std.specs.Prelude.{◌≡◌, refl, List, [], ◌∷◌, map}
use Rattle.notation.specs.Bytes.{bytes}
use Rattle.calculus.specs.Printed.{printed}
use Rattle.calculus.specs.Starred.{around, Case}

-- The link is not left with the spawned half: the handler starts when the other half raises, and does not fold up when the spawned half leaves.
-- A passed channel is gone from its sender: the send on it meets the receiver's recv, though the sender stands before the receiver.
-- A lost recv starts the handler, which then folds up neither with its process nor when that leaves.
-- A cancel by the process's own term wakes nobody: the handler waits, and folds up when its process leaves.
-- Whether a raise is caught is decided when it runs: a called process inherits the link, and the spawned half has none, however it stands in the text; a halt stops the others too.
-- A label that is left out: the sender goes on, the handler starts, and the receiver folds up with its own end still held; without a link the run halts. (That the sender then stays shows in no line: `nobody_takes_lem` says it.)
-- What is left out is told in the order of the type, a recv before those inside it, of processes that nobody executes too.
-- Two spellings of one type meet: every second name written out and the labels turned, and the label is found by its name. Types that differ only below a second label are two; so are types of other marks, and of as many labels with other names.
-- (A cancelled recv is no close: the fifth starred case.)
abbrev pub astray : List Case
astray =
    record {
      text = around (bytes "try (c : 1 <- (send c ()); recv c (() => raise)) catch (send x ())");
      output = bytes "Executing process m:\n#0 -> ()\ndone after 8 steps\n";
    }
    ∷ record {
      text = around (bytes "a : 1 <- (send a ()); c : 1 -o 1 <- (recv c (y => recv y (() => send c ()))); send c a; recv c (() => send x ())");
      output = bytes "Executing process m:\n#0 -> ()\ndone after 9 steps\n";
    }
    ∷ record {
      text = around (bytes "s : 1 <- (cancel s); try (recv s (() => )) catch (send x ())");
      output = bytes "Executing process m:\n#0 -> ()\ndone after 8 steps\n";
    }
    ∷ record {
      text = around (bytes "c : 1 <- (send c ()); try (cancel c) catch (send x ())");
      output = bytes "Executing process m:\n#0 -> cancelled\ndone after 8 steps\n";
    }
    ∷ record {
      text = bytes "proc f () [] = raise\nproc m (x : 1) [] = try (call f () []) catch (send x ())\nexec m\n";
      output = bytes "Executing process m:\n#0 -> ()\ndone after 6 steps\n";
    }
    ∷ record {
      text = around (bytes "try (c : 1 <- (raise send c ()); recv c (() => )) catch (send x ())");
      output = bytes "Executing process m:\nuncaught after 3 steps\n";
    }
    ∷ record {
      text = bytes "type f = +{'run : 1, 'jam : 1}\nproc m (x : 1, y : 1) [] = c : f <- (send c 'jam; send c ()); try (recv c ('run => recv c (() => send x ()))) catch (send y ())\nexec m\n";
      output = bytes "Warning: process m, channel c, missing 'jam\nExecuting process m:\n#0 -> cancelled\n#1 -> ()\ndone after 10 steps\n";
    }
    ∷ record {
      text = bytes "type w = &{'go : 1, 'stop : 1}\nproc m (x : 1) [] = s : w <- (recv s ('go => send s ())); send s 'stop; recv s (() => send x ())\nexec m\n";
      output = bytes "Warning: process m, channel s, missing 'stop\nExecuting process m:\nuncaught after 2 steps\n";
    }
    ∷ record {
      text = bytes "type t = +{'d : 1, 'b : 1, 'c : 1, 'a : 1}\nproc p () [c : t, e : t] = recv c ('c => cancel c; recv e ('a => cancel e | 'b => cancel e))\n";
      output = bytes "Warning: process p, channel c, missing 'd\nWarning: process p, channel c, missing 'b\nWarning: process p, channel c, missing 'a\nWarning: process p, channel e, missing 'd\nWarning: process p, channel e, missing 'c\n";
    }
    ∷ record {
      text = bytes "type n = +{'z : 1, 's : n}\ntype k = +{'s : +{'s : k, 'z : 1}, 'z : 1}\nproc m (x : n) [] = c : k <- (send c 's; send c 'z; send c ()); fwd x c\nexec m\n";
      output = bytes "Executing process m:\n#0 -> 's\n#0 -> 'z\n#0 -> ()\ndone after 7 steps\n";
    }
    ∷ record {
      text = bytes "type n = +{'z : 1, 's : n}\ntype k = +{'z : 1, 's : +{'z : 1 * 1, 's : k}}\nproc m (x : n) [] = c : k <- (cancel c); fwd x c\nexec m\n";
      output = bytes "refused 11 at 115\n";
    }
    ∷ record {
      text = bytes "type t = 1 * t\ntype u = 1 @ u\nproc m (x : 1) [] = c : t <- (d : u <- (cancel d); fwd c d); cancel c; send x ()\nexec m\n";
      output = bytes "refused 11 at 81\n";
    }
    ∷ record {
      text = bytes "proc m (x : +{'a : 1, 'b : 1}) [] = c : +{'a : 1, 'c : 1} <- (cancel c); fwd x c\nexec m\n";
      output = bytes "refused 11 at 73\n";
    }
    ∷ []

pub astray_cases : map (λ (c : Case). printed c.text) astray ≡ map (λ (c : Case). c.output) astray
unfolding printed
astray_cases = refl
