-- Each example may happen, and ends so.
use Rattle.std.proofs.Common.{inl, [], refl}
use Rattle.event_count.specs.{declared.wakes.steps.Phase.TheVariants.Idle, declared.wakes.steps.Phase.TheVariants.Prepared, declared.wakes.steps.Phase.TheVariants.Returned, Sleep.World.Awake}
use Rattle.law_channel.specs.Examples.{Examples}

pub examples : Examples
examples = record {
  sender_sleeps = record {
    runs = (((refl, refl, refl, inl refl), ((Awake Idle 0, refl, refl), (Awake Idle 0, refl, refl))), (tt, (tt, (tt, (tt, ((0, (refl, refl, refl, inl refl)), (tt, tt)))))));
    queue = refl;
    items = refl;
    room = refl;
  };
  sender_is_woken = record {
    runs = (((refl, refl, refl, inl refl), ((Awake Idle 0, refl, refl), (Awake Idle 0, refl, refl))), (tt, (tt, (tt, (tt, ((0, (refl, refl, refl, inl refl)), (tt, ((([], refl), ((Awake Idle 0, refl, refl), (Awake Idle 0, refl, refl))), (tt, (tt, (tt, (tt, tt))))))))))));
    queue = refl;
    items = refl;
    room = refl;
  };
  sender_sends = record {
    runs = (
      ((refl, refl, refl, inl refl), ((Awake Idle 0, refl, refl), (Awake Idle 0, refl, refl))),
      (tt, (tt, (tt, (tt, ((0, (refl, refl, refl, inl refl)), (tt, ((([], refl), ((Awake Idle 0, refl, refl), (Awake Idle 0, refl, refl))), (tt, (tt, (tt, (tt, (((refl, refl, refl, inl refl), ((Awake Idle 0, refl, refl), (Awake Returned 0, refl, refl))), (tt, tt))))))))))))),
    );
    queue = refl;
    items = refl;
    room = refl;
  };
  receiver_sleeps = record {
    runs = (tt, (tt, (tt, ((refl, refl, refl), (tt, (((refl, refl, refl, inl refl), ((Awake Idle 0, refl, refl), (Awake Idle 0, refl, refl))), tt))))));
    queue = refl;
    items = refl;
    room = refl;
  };
  receiver_takes = record {
    runs = (tt, (tt, (tt, ((refl, refl, refl), (tt, (((refl, refl, refl, inl refl), ((Awake Idle 0, refl, refl), (Awake Idle 0, refl, refl))), (tt, (tt, (tt, (tt, ((([], refl), ((Awake Returned 0, refl, refl), (Awake Idle 0, refl, refl))), tt)))))))))));
    queue = refl;
    items = refl;
    room = refl;
  };
  closed_and_asleep = record {
    runs = (tt, (tt, (tt, ((refl, refl, refl), (tt, ((refl, ((Awake Idle 0, refl, refl), (Awake Idle 0, refl, refl))), (tt, (tt, tt))))))));
    queue = refl;
    items = refl;
    room = refl;
  };
  receiver_ends = record {
    runs = (tt, (tt, (tt, ((refl, refl, refl), (tt, ((refl, ((Awake Idle 0, refl, refl), (Awake Idle 0, refl, refl))), (tt, (tt, (tt, (tt, (tt, (tt, ((refl, refl, refl), tt)))))))))))));
    queue = refl;
    items = refl;
    room = refl;
  };
  closes_with_ticket = record {
    runs = (tt, (tt, (tt, ((refl, ((Awake Idle 0, refl, refl), (Awake (Prepared 0) 0, refl, refl))), tt))));
    queue = refl;
    items = refl;
    room = refl;
  };
}
